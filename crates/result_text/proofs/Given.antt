-- Where a lookup's matches end.
use Rattle.std.proofs.Common.{◌≡◌, ℕ, ◌≤◌, List, [], ◌∷◌, ◌++◌, drop, length, refl}
use Rattle.std.proofs.lemmas.List.{append-nil, drop_all}
use Rattle.orc_ids.specs.declared.lookup.Wanted.{Wanted}
use Rattle.session_model.specs.Meaning.{Bindings}
use Rattle.result_text.specs.Results.{given_text}

given_none : (names : List (List ℕ)) (ws : List Wanted) → given_text names ws [] ≡ []
given_none names [] = refl
given_none names (w ∷ ws) = refl

-- where there is no match, all has been written
pub no_more : (names : List (List ℕ)) (ws : List Wanted) (ms : Bindings) (k : ℕ) (out whole : List ℕ) → length ms ≤ k → out ++ given_text names ws (drop k ms) ≡ whole → out ≡ whole
no_more names ws ms k out whole past rest = rw (drop_all k ms past, given_none names ws, append-nil out) at rest
