-- A unit that is resolved, and one that isn't there.
use Rattle.std.proofs.Common.{◌≡◌, ℕ, List, map, slice_get, Some, None, sym, ap, ap₂, ◌∙◌}
use Rattle.std.specs.Option.{option_map_or}
use Rattle.session_model.specs.Change.{resolved, resolved_row, resolved_unit}
use Rattle.session_model.specs.Lists.{changed_at}
use Rattle.session_model.specs.Plain.{Plain, UnitRow}
use Rattle.session_model.specs.declared.rows.InstRow.{InstRow}

abbrev with_lists : Plain → List InstRow → List UnitRow → Plain
with_lists m rows units = record m { rows = rows; units = units }

abbrev resolved_by : ℕ → Plain → UnitRow → Plain
resolved_by u m x = with_lists m (map (resolved_row u (resolved_unit x)) m.rows) (changed_at u resolved_unit m.units)

pub resolved_there : (m : Plain) (u : ℕ) (x : UnitRow) (rows : List InstRow) (units : List UnitRow) → slice_get m.units u ≡ Some x → rows ≡ map (resolved_row u (resolved_unit x)) m.rows → units ≡ changed_at u resolved_unit m.units → with_lists m rows units ≡ resolved u m
resolved_there m u x rows units there r s = ap₂ (with_lists m) r s ∙ sym (ap (λ o. option_map_or (resolved_by u m) o m) there)

pub resolved_nowhere : (m : Plain) (u : ℕ) → slice_get m.units u ≡ None → m ≡ resolved u m
resolved_nowhere m u none = sym (ap (λ o. option_map_or (resolved_by u m) o m) none)
