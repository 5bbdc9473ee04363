-- How a unit goes on whose instances get their addresses.
use Rattle.std.specs.Prelude.{ℕ, Option, Some, None, option_map, if◌then◌else◌}
use Rattle.orc_ids.specs.declared.ids.InstId.{InstId}
use Rattle.session_model.specs.Change.{target_address}
use Rattle.session_model.specs.Meaning.{Meaning}
use Rattle.session_model.specs.Plain.{is_alias}
use Rattle.mat_unit.specs.Changes as one
use Rattle.mat_unit.specs.Rows.{unit_row}
use Rattle.mat_unit.specs.declared.unit.Unit.{Unit as OneUnit}

-- the address that is bound
abbrev pub bound_address : Option (InstId × ℕ) → Option ℕ
bound_address found = option_map (λ p. p.1) found

-- the address that an alias was bound to; any other unit has none
abbrev pub alias_target : {U : Type 0} → (U → Meaning) → OneUnit U → Option ℕ
alias_target means x = if is_alias (unit_row means 0 x) then Some (target_address (unit_row means 0 x)) else None

-- an alias has this base now; any other unit is linked next
abbrev pub gone_on : {U : Type 0} → Option ℕ → OneUnit U → OneUnit U
gone_on (Some base) x = one.based base x
gone_on None x = one.linking x
