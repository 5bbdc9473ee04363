-- Which units have a range, and of how many bytes.
use Rattle.std.specs.Prelude.{◌≡◌, ℕ, List, Option, Some, slice_get, option_map}
use Rattle.code_memory.specs.declared.placement.Placement.{Placement}
use Rattle.code_memory.specs.Places.{placement_of}

-- how many bytes the unit's range has, if it has one
abbrev pub need_of : List Placement → ℕ → Option ℕ
need_of ps u = option_map (λ p. p.shape.need) (placement_of ps (record { 0 = u }))

-- the list says of each of its units how many bytes its range has
pub record Agree (ps : List Placement) (needs : List (Option ℕ)) : Type 0 where
  pub each : (u : ℕ) (need : Option ℕ) → slice_get needs u ≡ Some need → need_of ps u ≡ need
