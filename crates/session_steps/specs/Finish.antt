-- What a holder emits.
use Rattle.std.specs.Prelude.{◌≡◌, ℕ, false, List, [], slice_get, Some, None, unwrap_or}
use Rattle.orc_ids.specs.declared.groups.Group.{Group}
use Rattle.orc_ids.specs.declared.ids.UnitId.{UnitId}
use Rattle.session_model.specs.Meaning.{Bindings, FitsUnit}
use Rattle.session_model.specs.Plain.{Plain, UnitRow, own_rows, is_defunct}
use Rattle.session_model.specs.Memory.{unit_image}

-- the unit's groups and image, where none of its edges is out of range
pub record IsFinish (m : Plain) (u : UnitId) (x : UnitRow) (groups : List Group) (bytes : List ℕ) : Type 0 where
  pub groups_are : groups ≡ x.meaning.groups x.live (unwrap_or x.base 0) (unwrap_or x.bound []) (own_rows u.0 0 m.rows)
  pub allowed : x.meaning.refusal x.live (unwrap_or x.base 0) (unwrap_or x.bound []) ≡ None
  pub image : bytes ≡ unit_image x

-- the names, bindings and instances that a unit has fit it
abbrev pub UnitFits : Plain → UnitId → Type 0
UnitFits m u = (x : UnitRow) (b : Bindings) → slice_get m.units u.0 ≡ Some x → is_defunct x.phase ≡ false → x.bound ≡ Some b → FitsUnit x.meaning x.live b (own_rows u.0 0 m.rows)
