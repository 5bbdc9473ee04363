-- Stops, one line after the other.
use Rattle.std.proofs.Common.{◌≡◌, List, [], ◌∷◌, ◌++◌, flat_map, refl, ap, sym, ◌∙◌}
use Rattle.std.proofs.lemmas.Grind.{flat_map-append}
use Rattle.std.proofs.lemmas.List.{append-nil}
use Rattle.orc_ids.specs.declared.lookup.Stop.{Stop}
use Rattle.answers.specs.declared.answer.Answer.{Answer}
use Rattle.session_command.specs.Ends.{stop_answer, stops_answer, worse}

stops_append : (before : Answer) (xs ys : List Stop) → stops_answer before (xs ++ ys) ≡ stops_answer (stops_answer before xs) ys
stops_append before [] ys = refl
stops_append before (x ∷ xs) ys = stops_append (worse before (stop_answer x)) xs ys

-- after one more
pub stops_more : {X : Type 0} (stops : X → List Stop) (before now new : Answer) (done : List X) (x : X) → now ≡ stops_answer before (flat_map stops done) → new ≡ stops_answer now (stops x) → new ≡ stops_answer before (flat_map stops (done ++ x ∷ []))
stops_more stops before now new done x so next =
    next ∙ (ap (λ a. stops_answer a (stops x)) so ∙ (sym (stops_append before (flat_map stops done) (stops x)) ∙ ap (stops_answer before) (sym (flat_map-append stops done (x ∷ []) ∙ ap (λ l. flat_map stops done ++ l) (append-nil (stops x))))))
