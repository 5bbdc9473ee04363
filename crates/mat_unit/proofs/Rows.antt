-- Each change of a unit is the session's own on the unit's row.
use Rattle.std.proofs.Common.{◌≡◌, ℕ, true, false, Some, None, List, refl, ap, sym, cond}
use Rattle.std.proofs.lemmas.Bool.{eq-eqb}
use Rattle.orc_ids.specs.declared.ids.DylibId.{DylibId}
use Rattle.orc_ids.specs.declared.ids.QueryId.{QueryId}
use Rattle.orc_ids.specs.declared.ids.SeatNo.{SeatNo}
use Rattle.session_model.specs.Change.{kept_names, new_unit, listed_unit, started_unit, finishing_unit, bindings_of, placed_unit, waiting_unit, linked_unit, done_unit, failed_unit, removed_unit, let_go_unit, resolved_unit, target_address}
use Rattle.session_model.specs.Meaning.{Meaning}
use Rattle.session_model.specs.Plain.{is_alias}
use Rattle.session_model.specs.declared.entry.Finishing.{Finishing}
use Rattle.session_model.specs.declared.rows.Verdict.{Verdict}
use Rattle.session_model.specs.declared.rows.UnitPhase.TheVariants as stage
use Rattle.mat_unit.specs.Changes.{fresh, listed, started, finishing, placed, linking, based, waiting, linked, done, failed, removed, let_go}
use Rattle.mat_unit.specs.Rows.{unit_row}
use Rattle.mat_unit.specs.declared.unit.Unit.{Unit as OneUnit}

pub fresh-row : {U : Type 0} (means : U → Meaning) (t : ℕ) (unit : U) (d : DylibId) (found : List Verdict) → unit_row means t (fresh unit d (kept_names found)) ≡ new_unit t (means unit) found
fresh-row means t unit d found = refl

pub listed-row : {U : Type 0} (means : U → Meaning) (t : ℕ) (x : OneUnit U) → unit_row means t (listed x) ≡ listed_unit (unit_row means t x)
listed-row means t x = refl

pub started-row : {U : Type 0} (means : U → Meaning) (t : ℕ) (s : SeatNo) (x : OneUnit U) → unit_row means t (started s x) ≡ started_unit s.0 (unit_row means t x)
started-row means t s x = refl

pub finishing-row : {U : Type 0} (means : U → Meaning) (t : ℕ) (s : SeatNo) (how : Finishing) (x : OneUnit U) → unit_row means t (finishing s (bindings_of how) x) ≡ finishing_unit s.0 how (unit_row means t x)
finishing-row means t s how x = refl

pub placed-row : {U : Type 0} (means : U → Meaning) (t base : ℕ) (x : OneUnit U) → unit_row means t (placed base x) ≡ placed_unit base (unit_row means t x)
placed-row means t base x = refl

pub waiting-row : {U : Type 0} (means : U → Meaning) (t : ℕ) (query : QueryId) (x : OneUnit U) → unit_row means t (waiting query x) ≡ waiting_unit query.0 (unit_row means t x)
waiting-row means t query x = refl

pub linked-row : {U : Type 0} (means : U → Meaning) (t : ℕ) (x : OneUnit U) → unit_row means t (linked x) ≡ linked_unit (unit_row means t x)
linked-row means t x = refl

pub done-row : {U : Type 0} (means : U → Meaning) (t : ℕ) (x : OneUnit U) → unit_row means t (done x) ≡ done_unit (unit_row means t x)
done-row means t x = refl

pub failed-row : {U : Type 0} (means : U → Meaning) (t : ℕ) (x : OneUnit U) → unit_row means t (failed x) ≡ failed_unit (unit_row means t x)
failed-row means t x = refl

pub let_go-row : {U : Type 0} (means : U → Meaning) (t : ℕ) (s : SeatNo) (x : OneUnit U) → unit_row means t (let_go s x) ≡ let_go_unit s.0 (unit_row means t x)
let_go-row means t s x = refl

-- of the tracker that is removed
pub removed-row : {U : Type 0} (means : U → Meaning) (t : ℕ) (x : OneUnit U) → unit_row means t (removed x) ≡ removed_unit t (unit_row means t x)
removed-row means t x = ap (λ b. record (unit_row means t x) { phase = cond b stage.Defunct x.phase; base = cond b None x.base }) (sym (eq-eqb t t refl))

-- a unit that isn't an alias
pub linking-row : {U : Type 0} (means : U → Meaning) (t : ℕ) (x : OneUnit U) → is_alias (unit_row means t x) ≡ false → unit_row means t (linking x) ≡ resolved_unit (unit_row means t x)
linking-row means t x other = ap (λ b. record (unit_row means t x) { phase = cond b x.phase stage.Linking; base = cond b (Some (target_address (unit_row means t x))) x.base }) (sym other)

-- an alias, with its target's address
pub based-row : {U : Type 0} (means : U → Meaning) (t : ℕ) (x : OneUnit U) → is_alias (unit_row means t x) ≡ true → unit_row means t (based (target_address (unit_row means t x)) x) ≡ resolved_unit (unit_row means t x)
based-row means t x alias = ap (λ b. record (unit_row means t x) { phase = cond b x.phase stage.Linking; base = cond b (Some (target_address (unit_row means t x))) x.base }) (sym alias)
