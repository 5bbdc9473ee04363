-- The dependencies that a unit's groups give to its instances.
use Rattle.std.specs.Prelude.{◌≡◌, ℕ, ◌+◌, ◌<◌, ◌==◌, List, [], length, slice_get, Option, Some, option_map, unwrap_or, if◌then◌else◌}
use Rattle.std.specs.List.{list_any}
use Rattle.orc_ids.specs.declared.ids.InstId.{InstId}
use Rattle.orc_ids.specs.declared.groups.Group.{Group}
use Rattle.session_model.specs.Lists.{only_if, or_else, first_some}
use Rattle.session_model.specs.Plain.{is_owned, phase_address}
use Rattle.session_model.specs.declared.rows.InstRow.{InstRow}
use Rattle.session_model.specs.declared.rows.Phase.TheVariants as phase

-- the group's dependencies, if the instance at i is in it
abbrev pub group_deps : ℕ → Group → Option (List InstId)
group_deps i g = only_if (list_any (λ (j : InstId). j.0 == i) g.members) g.deps

-- each place that was empty has what is given there now
abbrev pub IsFilled : (ℕ → Option (List InstId)) → List (Option (List InstId)) → List (Option (List InstId)) → Type 0
IsFilled given old new = (j : ℕ) → slice_get new j ≡ option_map (λ o. or_else o (given j)) (slice_get old j)

-- the table has the first group's dependencies of each instance from first on, so many
pub record HasDeps (groups : List Group) (first count : ℕ) (table : List (Option (List InstId))) : Type 0 where
  pub inside : length table ≡ count
  pub each : (j : ℕ) → j < count → slice_get table j ≡ Some (first_some (group_deps (first + j)) groups)

-- the row once it is emitted with these dependencies
abbrev pub row_with : ℕ → Option (List InstId) → InstRow → InstRow
row_with u deps r = record r { phase = if is_owned u r then phase.Emitted (unwrap_or (phase_address r.phase) 0) (unwrap_or deps []) else r.phase }
