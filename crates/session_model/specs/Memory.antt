-- The memory of a session: what the placed and finished units hold.
use Rattle.std.specs.Prelude.{ℕ, ◌-◌, Bool, true, false, ◌&&◌, nat_le, List, [], slice_get, Option, None, unwrap_or, option_and_then, if◌then◌else◌}
use Rattle.session_model.specs.Lists.{first_some}
use Rattle.session_model.specs.Plain.{Plain, UnitRow, Range, placement}
use Rattle.session_model.specs.declared.rows.UnitPhase.{UnitPhase}
use Rattle.session_model.specs.declared.rows.UnitPhase.TheVariants as stage

abbrev pub is_done : UnitPhase → Bool
is_done stage.Done = true
is_done _ = false

-- the bytes of a unit, where it is placed and bound
abbrev pub unit_image : UnitRow → List ℕ
unit_image x = x.meaning.image x.live (unwrap_or x.base 0) (unwrap_or x.bound [])

-- what a unit holds at an address of its range, once it is finished
abbrev pub unit_byte : ℕ → UnitRow → Option ℕ
unit_byte address x = option_and_then
    (λ (range : Range). if is_done x.phase && nat_le range.base address then slice_get (unit_image x) (address - range.base) else None)
    (placement x)

-- the byte at an address
abbrev pub memory : Plain → ℕ → Option ℕ
memory m address = first_some (unit_byte address) m.units
