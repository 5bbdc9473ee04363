-- What turns a call away answers it.
use Rattle.std.proofs.Common.{◌≡◌, ◌↔◌, ℕ, Bool, true, false, Some, None, slice_get, subst, sym, refl, ap, ◌∙◌}
use Rattle.std.specs.Prelude.{◌&&◌, if◌then◌else◌}
use Rattle.std.specs.Option.{option_map_or}
use Rattle.std.proofs.lemmas.Option.{same_Some, none-some}
use Rattle.orc_ids.specs.declared.ids.UnitId.{UnitId}
use Rattle.session_model.specs.Plain.{Plain, UnitRow, is_defunct}
use Rattle.session_model.specs.Answer.{AnswersCall, Called, Gone, Wrong, Right, called, is_held}
use Rattle.session_model.specs.declared.entry.Reply.{Reply}
use Rattle.session_model.specs.declared.entry.Reply.TheVariants.{Defunct, WrongPhase}
use Rattle.session_plain.specs.Calls.{turned_away, called_at}

-- a call on a unit that isn't there
pub called_missing : (m : Plain) (s : ℕ) (u : UnitId) (fits : UnitRow → Bool) → slice_get m.units u.0 ≡ None → called m s u fits ≡ Wrong
called_missing m s u fits e = ap (λ o. option_map_or (called_at s fits) o Wrong) e

-- and on one that is there
called_there : (m : Plain) (s : ℕ) (u : UnitId) (fits : UnitRow → Bool) (x : UnitRow) → slice_get m.units u.0 ≡ Some x → called m s u fits ≡ called_at s fits x
called_there m s u fits x e = ap (λ o. option_map_or (called_at s fits) o Wrong) e

turned_by : (b c : Bool) (u : UnitId) (x : UnitRow) (P : UnitRow → Type 0) (known r : Reply) → (if b then Some (Defunct u) else (if c then None else Some (WrongPhase u))) ≡ Some known →
    (r ≡ known) ↔ AnswersCall (if b then Gone else (if c then Right x else Wrong)) u P r
turned_by true c u x P known r e = let k : Defunct u ≡ known = same_Some (Defunct u) known e in (λ p. p ∙ sym k, λ p. p ∙ k)
turned_by false true u x P known r e = absurd (none-some known e)
turned_by false false u x P known r e = let k : WrongPhase u ≡ known = same_Some (WrongPhase u) known e in (λ p. p ∙ sym k, λ p. p ∙ k)

-- a call that is turned away is answered so
pub turned_call : (s : ℕ) (u : UnitId) (fits : UnitRow → Bool) (x : UnitRow) (P : UnitRow → Type 0) (known r : Reply) → turned_away s u (fits x) x ≡ Some known → (r ≡ known) ↔ AnswersCall (called_at s fits x) u P r
turned_call s u fits x P known r e = turned_by (is_defunct x.phase) (is_held s x && fits x) u x P known r e

right_by : (b c : Bool) (u : UnitId) (x : UnitRow) → (if b then Some (Defunct u) else (if c then None else Some (WrongPhase u))) ≡ None → (if b then Gone else (if c then Right x else Wrong)) ≡ Right x
right_by true c u x e = absurd (none-some (Defunct u) (sym e))
right_by false true u x e = refl
right_by false false u x e = absurd (none-some (WrongPhase u) (sym e))

-- a call that isn't turned away is right
pub right_call : (s : ℕ) (u : UnitId) (fits : UnitRow → Bool) (x : UnitRow) → turned_away s u (fits x) x ≡ None → called_at s fits x ≡ Right x
right_call s u fits x e = right_by (is_defunct x.phase) (is_held s x && fits x) u x e

-- where the right reply is determined, the reply is right that is the same
pub same_call : (c : Called) (u : UnitId) (right : UnitRow → Reply) (known r : Reply) → AnswersCall c u (λ x. known ≡ right x) known → (r ≡ known) ↔ AnswersCall c u (λ x. r ≡ right x) r
same_call Gone u right known r a = (λ p. p ∙ a, λ p. p ∙ sym a)
same_call Wrong u right known r a = (λ p. p ∙ a, λ p. p ∙ sym a)
same_call (Right x) u right known r a = (λ p. p ∙ a, λ p. p ∙ sym a)

-- one test after another
pub both_tests : {A B C : Type 0} → A ↔ B → B ↔ C → A ↔ C
both_tests f g = (λ a. g.0 (f.0 a), λ c. f.1 (g.1 c))

-- a call on a unit that isn't there is answered WrongPhase
pub missing_call : (m : Plain) (s : ℕ) (u : UnitId) (fits : UnitRow → Bool) (P : UnitRow → Type 0) (r : Reply) → slice_get m.units u.0 ≡ None → (r ≡ WrongPhase u) ↔ AnswersCall (called m s u fits) u P r
missing_call m s u fits P r e = subst (λ c. (r ≡ WrongPhase u) ↔ AnswersCall c u P r) (sym (called_missing m s u fits e)) (λ p. p, λ p. p)

-- a call on a unit that is there
pub there_call : (m : Plain) (s : ℕ) (u : UnitId) (fits : UnitRow → Bool) (P : UnitRow → Type 0) (x : UnitRow) (r : Reply) (A : Type 0) → slice_get m.units u.0 ≡ Some x → A ↔ AnswersCall (called_at s fits x) u P r → A ↔ AnswersCall (called m s u fits) u P r
there_call m s u fits P x r A e h = subst (λ c. A ↔ AnswersCall c u P r) (sym (called_there m s u fits x e)) h

-- a call that isn't turned away
pub open_call : (s : ℕ) (u : UnitId) (fits : UnitRow → Bool) (x : UnitRow) (P : UnitRow → Type 0) (r : Reply) (A : Type 0) → turned_away s u (fits x) x ≡ None → A ↔ P x → A ↔ AnswersCall (called_at s fits x) u P r
open_call s u fits x P r A e h = subst (λ c. A ↔ AnswersCall c u P r) (sym (right_call s u fits x e)) h
