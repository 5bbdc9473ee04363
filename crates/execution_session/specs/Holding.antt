-- What the holder of a unit hands in.
use Rattle.std.specs.Prelude.{◌≡◌, ℕ, Bool, List, [], None, slice_get, unwrap_or}
use Rattle.std.specs.Option.{option_map_or}
use Rattle.orc_ids.specs.declared.groups.Group.{Group}
use Rattle.orc_ids.specs.declared.ids.InstId.{InstId}
use Rattle.orc_ids.specs.declared.ids.UnitId.{UnitId}
use Rattle.orc_ids.specs.declared.place.Shape.{Shape}
use Rattle.session_model.specs.Meaning.{Meaning, Bindings}
use Rattle.session_model.specs.Plain.{Plain, UnitRow, own_rows}
use Rattle.execution_session.specs.declared.holding.Finished.{Finished}
use Rattle.session_steps.specs.declared.jobs.TakenUnit.{TakenUnit}

-- the groups and the bytes of the unit, no edge of which is out of range
pub record IsFinished (u : Meaning) (live : List Bool) (base : ℕ) (bound : Bindings) (own : List InstId) (made : Finished) : Type 0 where
  pub groups_are : made.groups ≡ u.groups live base bound own
  pub allowed : u.refusal live base bound ≡ None
  pub image : made.bytes ≡ u.image live base bound

-- the unit can't be finished so: an edge of it is out of range
abbrev pub IsRefused : Meaning → List Bool → ℕ → Bindings → Type 0
IsRefused u live base bound = u.refusal live base bound ≡ None → ⊥

-- the shape of no memory
abbrev pub empty_shape : Shape
empty_shape = record { need = 0; align = 1 }

-- the memory that the unit needs, which may be none
abbrev pub own_shape : {U : Type 0} → (U → Meaning) → TakenUnit U → Shape
own_shape means taken = unwrap_or ((means taken.share).shape taken.live) empty_shape

-- the unit's groups with these bindings
abbrev pub bound_groups : Plain → UnitId → UnitRow → Bindings → List Group
bound_groups m u x bound = x.meaning.groups x.live (unwrap_or x.base 0) bound (own_rows u.0 0 m.rows)

-- the groups of the unit of this number, once it has its bindings; before that none
abbrev pub own_groups : Plain → UnitId → List Group
own_groups m u = option_map_or (λ x. option_map_or (bound_groups m u x) x.bound []) (slice_get m.units u.0) []
