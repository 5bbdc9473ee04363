-- What the emitted instances of a session depend on.
use Rattle.std.specs.Prelude.{◌≡◌, ℕ, true, List, [], slice_get, Some, unwrap_or}
use Rattle.orc_ids.specs.declared.groups.Group.{Group}
use Rattle.orc_ids.specs.declared.ids.InstId.{InstId}
use Rattle.session_model.specs.Meaning.{Meaning}
use Rattle.session_model.specs.Plain.{UnitRow, own_rows}
use Rattle.session_model.specs.Change.{deps_in}
use Rattle.session_model.specs.State.{state}
use Rattle.session_model.specs.History.{IsLegal}
use Rattle.session_model.specs.declared.entry.Entry.{Entry}
use Rattle.session_model.specs.declared.rows.InstRow.{InstRow}
use Rattle.session_model.specs.declared.rows.Phase.TheVariants as phase
use Rattle.session_model.specs.declared.rows.UnitPhase.TheVariants as stage

-- the groups of a unit, of its instances as they are, at its base and with its bindings
abbrev pub unit_groups : List InstRow → ℕ → UnitRow → List Group
unit_groups rows u x = x.meaning.groups x.live (unwrap_or x.base 0) (unwrap_or x.bound []) (own_rows u 0 rows)

-- the unit is done, and these are the dependencies of the instance's group
pub record DependsSo (rows : List InstRow) (units : List UnitRow) (u i : ℕ) (deps : List InstId) : Type 0 where
  pub unit : UnitRow
  pub there : slice_get units u ≡ Some unit
  pub done : unit.phase ≡ stage.Done
  pub same : deps ≡ deps_in (unit_groups rows u unit) i

-- each present instance that is emitted has the dependencies of its group, and its unit is done
abbrev pub DependenciesFit : List InstRow → List UnitRow → Type 0
DependenciesFit rows units = (i : ℕ) (r : InstRow) (address : ℕ) (deps : List InstId) → slice_get rows i ≡ Some r → r.present ≡ true → r.phase ≡ phase.Emitted address deps → DependsSo rows units r.unit.0 i deps

-- in every legal history
abbrev pub DependenciesAreKept : Type 0
DependenciesAreKept = (jmax : ℕ) (h : List (Entry Meaning)) → IsLegal jmax h → DependenciesFit (state h).rows (state h).units
