-- The memory of a session, as code memory has it.
use Rattle.std.specs.Prelude.{◌≡◌, ℕ, ◌≤◌, Bool, true, false, List, slice_get, length, Option, Some, None, is_some, option_map, option_and_then, if◌then◌else◌}
use Rattle.orc_ids.specs.declared.place.Shape.{Shape}
use Rattle.session_model.specs.Plain.{UnitRow, unit_shape, is_alias}
use Rattle.session_model.specs.Memory.{is_done, unit_image}
use Rattle.session_model.specs.declared.rows.UnitPhase.{UnitPhase}
use Rattle.session_model.specs.declared.rows.UnitPhase.TheVariants as stage
use Rattle.code_memory.specs.Places.{placement_of}
use Rattle.code_memory.specs.declared.placement.Placement.{Placement}

-- a range, with the unit's bytes once it is done
abbrev pub range_at : ℕ → UnitRow → ℕ → Shape → Placement
range_at u x base shape = record { unit = record { 0 = u }; base = base; shape = shape; bytes = if is_done x.phase then Some (unit_image x) else None }

-- the range of a unit that is placed
abbrev pub stored : ℕ → UnitRow → Option Placement
stored u x = option_and_then (λ base. option_map (range_at u x base) (unit_shape x)) x.base

-- it is placed, if it needs memory at all
abbrev pub is_placed : UnitPhase → Bool
is_placed stage.Placed = true
is_placed stage.Linking = true
is_placed stage.Waiting = true
is_placed stage.Linked = true
is_placed stage.Finishing = true
is_placed stage.Done = true
is_placed _ = false

-- a unit's range is what code memory has for it; only one that needs memory, or an alias, has a base
pub record IsStored (p : List Placement) (u : ℕ) (x : UnitRow) : Type 0 where
  pub range : placement_of p (record { 0 = u }) ≡ stored u x
  pub based : is_alias x ≡ false → is_some x.base ≡ true → is_some (unit_shape x) ≡ true
  pub placed : is_placed x.phase ≡ true → is_alias x ≡ false → is_some x.base ≡ is_some (unit_shape x)

-- the ranges of the units are all that code memory has
pub record AreStored (units : List UnitRow) (p : List Placement) : Type 0 where
  pub each : (u : ℕ) (x : UnitRow) → slice_get units u ≡ Some x → IsStored p u x
  pub others : (u : ℕ) → length units ≤ u → placement_of p (record { 0 = u }) ≡ None
