-- The numbers of notes: what the calls of a plan have, and what the lines have that they were made for.
use Rattle.std.proofs.Common.{◌≡◌, ℕ, List, [], ◌∷◌, map, Some, None, refl, ap, ◌∙◌, arith}
use Rattle.std.specs.Prelude.{flat_map}
use Rattle.std.specs.Option.{option_to_list}
use Rattle.std.proofs.lemmas.List.{map-append}
use Rattle.script_model.specs.Asking.{Line, LookUp}
use Rattle.script_model.specs.Plans.{line_of}
use Rattle.script_model.specs.declared.calls.ClientCall.{ClientCall}
use Rattle.script_model.specs.declared.calls.ClientCall.TheVariants as call
use Rattle.script_plan.specs.Asked.{asked_line}
use Rattle.script_plan.specs.Notes.{watch_of, watches_of}
use Rattle.session_script.specs.WellFormed.{note_of, notes_of}
use Rattle.session_model.specs.Meaning.{Meaning}
use Rattle.session_script.specs.declared.script.ClientLine.{ClientLine}
use Rattle.session_script.specs.declared.script.ClientLine.TheVariants as line

abbrev numbers_of : Line → List ℕ
numbers_of (LookUp lookup) = option_to_list lookup.note
numbers_of _ = []

module _ {U N : Type 0} (means : U → Meaning) where
  call_numbers : (call : ClientCall U N) → map (λ w. w.0) (watch_of call) ≡ numbers_of (line_of means call)
  call_numbers (call.Define d t unit) = refl
  call_numbers (call.LookUp names None) = refl
  call_numbers (call.LookUp names (Some w)) = refl
  call_numbers (call.Move t to) = refl
  call_numbers (call.Remove t) = refl
  call_numbers (call.Run name fuel args) = refl
  call_numbers (call.Peek name) = refl

  client_numbers : (calls : List (ClientCall U N)) → map (λ w. w.0) (flat_map watch_of calls) ≡ flat_map numbers_of (map (line_of means) calls)
  client_numbers [] = refl
  client_numbers (call ∷ calls) = grind (arith, map-append (λ (w : ℕ × N). w.0) (watch_of call) (flat_map watch_of calls), call_numbers call, client_numbers calls)

  plan_numbers : {C : Type 0} (items : C → List (ClientCall U N)) (clients : List C) → map (λ w. w.0) (watches_of (map items clients)) ≡ flat_map (flat_map numbers_of) (map (λ c. map (line_of means) (items c)) clients)
  plan_numbers items [] = refl
  plan_numbers items (c ∷ clients) = grind (arith, map-append (λ (w : ℕ × N). w.0) (flat_map watch_of (items c)) (watches_of (map items clients)), client_numbers (items c), plan_numbers items clients)

module _ (units : List Meaning) where
  line_numbers : (line : ClientLine) → numbers_of (asked_line units line) ≡ note_of line
  line_numbers (line.Define d t file) = refl
  line_numbers (line.Lookup names) = refl
  line_numbers (line.Watch note names) = refl
  line_numbers (line.Move t to) = refl
  line_numbers (line.Remove t) = refl
  line_numbers (line.Run name fuel args) = refl
  line_numbers (line.Peek name) = refl

  lines_numbers : (lines : List ClientLine) → flat_map numbers_of (map (asked_line units) lines) ≡ flat_map note_of lines
  lines_numbers [] = refl
  lines_numbers (first ∷ lines) = grind (arith, line_numbers first, lines_numbers lines)

  script_numbers : (clients : List (List ClientLine)) → flat_map (flat_map numbers_of) (map (map (asked_line units)) clients) ≡ notes_of clients
  script_numbers [] = refl
  script_numbers (lines ∷ clients) = grind (arith, lines_numbers lines, script_numbers clients)

module _ {U N : Type 0} (means : U → Meaning) (units : List Meaning) where
  -- a client whose calls are those that its lines ask for
  pub client_has_notes : (calls : List (ClientCall U N)) (lines : List ClientLine) → map (line_of means) calls ≡ map (asked_line units) lines → map (λ w. w.0) (flat_map watch_of calls) ≡ flat_map note_of lines
  client_has_notes calls lines asked = client_numbers means calls ∙ ap (flat_map numbers_of) asked ∙ lines_numbers units lines

  -- a plan whose calls are those that the lines ask for
  pub plan_has_notes : {C : Type 0} (items : C → List (ClientCall U N)) (plans : List C) (clients : List (List ClientLine)) → map (λ c. map (line_of means) (items c)) plans ≡ map (map (asked_line units)) clients → map (λ w. w.0) (watches_of (map items plans)) ≡ notes_of clients
  plan_has_notes items plans clients asked = plan_numbers means items plans ∙ ap (flat_map (flat_map numbers_of)) asked ∙ script_numbers units clients
