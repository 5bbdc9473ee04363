-- The rows of a unit's own, and what is answered to calls on it.
use Rattle.std.proofs.Common.{◌≡◌, ℕ, suc, ◌+◌, false, ◌&&◌, ◌==◌, nat_eq, List, [], ◌∷◌, slice_get, Some, true, subst, sym, refl, ap, ◌∙◌}
use Rattle.std.specs.Bool.{if◌then◌else◌}
use Rattle.std.specs.Option.{option_map_or}
use Rattle.std.proofs.lemmas.Bool.{and_from, and_right, eq-eqb, ne_eqb}
use Rattle.orc_ids.specs.declared.ids.UnitId.{UnitId}
use Rattle.session_model.specs.Answer.{AnswersCall, Called, Gone, Wrong, Right}
use Rattle.session_model.specs.Change.{waits_for}
use Rattle.session_model.specs.Plain.{Plain, UnitRow, is_owned, is_owned_at, is_waiting, own_rows}
use Rattle.session_model.specs.declared.entry.Reply.{Reply}
use Rattle.session_model.specs.declared.rows.InstRow.{InstRow}
use Rattle.session_model.specs.declared.rows.UnitPhase.TheVariants as stage

-- Its rows

-- a row of another unit isn't its own
pub not_owned : (u : ℕ) (r : InstRow) → (r.unit.0 ≡ u → ⊥) → is_owned u r ≡ false
not_owned u r n = and_right r.present (r.unit.0 == u) (ne_eqb r.unit.0 u n)

-- their list follows from which instances are its own
pub own_same : (u k : ℕ) (rows new : List InstRow) → ((i : ℕ) → is_owned_at u new i ≡ is_owned_at u rows i) → own_rows u k new ≡ own_rows u k rows
own_same u k [] [] h = refl
own_same u k [] (q ∷ qs) h = ap (λ b. if b then record { 0 = k } ∷ own_rows u (k + 1) qs else own_rows u (k + 1) qs) (h 0) ∙ own_same u (k + 1) [] qs (λ i. h (suc i))
own_same u k (r ∷ rs) [] h = own_same u (k + 1) rs [] (λ i. h (suc i)) ∙ ap (λ b. if b then record { 0 = k } ∷ own_rows u (k + 1) rs else own_rows u (k + 1) rs) (h 0)
own_same u k (r ∷ rs) (q ∷ qs) h = ap (λ b. if b then record { 0 = k } ∷ own_rows u (k + 1) qs else own_rows u (k + 1) qs) (h 0) ∙ ap (λ l. if is_owned u r then record { 0 = k } ∷ l else l) (own_same u (k + 1) rs qs (λ i. h (suc i)))

-- What it waits for

pub waiting_from : (m : Plain) (u k : ℕ) (x : UnitRow) → slice_get m.units u ≡ Some x → x.phase ≡ stage.Waiting → x.query ≡ Some k → waits_for m u k ≡ true
waiting_from m u k x e p q = subst (λ o. option_map_or (λ (y : UnitRow). option_map_or (nat_eq k) y.query false && is_waiting y.phase) o false ≡ true) (sym e)
    (and_from (option_map_or (nat_eq k) x.query false) (is_waiting x.phase) (ap (λ o. option_map_or (nat_eq k) o false) q ∙ eq-eqb k k refl) (ap is_waiting p))

-- Calls on it

-- where what a call does at its row has one answer, the call has one
pub call_one : (c : Called) (u : UnitId) (Q : UnitRow → Reply → Type 0) (a b : Reply) → ((x : UnitRow) → Q x a → Q x b → a ≡ b) → AnswersCall c u (λ x. Q x a) a → AnswersCall c u (λ x. Q x b) b → a ≡ b
call_one Gone u Q a b h x y = x ∙ sym y
call_one Wrong u Q a b h x y = x ∙ sym y
call_one (Right r) u Q a b h x y = h r x y
