-- What a seat must know to make a call on a unit that it holds; nothing, where the call is turned away.
use Rattle.std.specs.Prelude.{◌≡◌, ℕ, true, List, Some}
use Rattle.orc_ids.specs.declared.groups.Group.{Group}
use Rattle.orc_ids.specs.declared.ids.UnitId.{UnitId}
use Rattle.orc_ids.specs.declared.place.Shape.{Shape}
use Rattle.session_model.specs.Meaning.{Meaning}
use Rattle.session_model.specs.Plain.{Plain, UnitRow, unit_shape}
use Rattle.session_model.specs.Answer.{HasCause, Right, called, can_place, can_emit}
use Rattle.session_model.specs.declared.entry.Entry.{Entry}
use Rattle.session_model.specs.declared.entry.Why.{Why}
use Rattle.session_steps.specs.Finish.{IsFinish}

-- the shape is that of the unit, if the seat may place it
abbrev pub MayPlace : Plain → ℕ → UnitId → Shape → Type 0
MayPlace m s u shape = (x : UnitRow) → called m s u can_place ≡ Right x → unit_shape x ≡ Some shape

-- the groups and bytes are those of the unit, if the seat may emit it
abbrev pub MayEmit : Plain → ℕ → UnitId → List Group → List ℕ → Type 0
MayEmit m s u groups bytes = (x : UnitRow) → called m s u can_emit ≡ Right x → IsFinish m u x groups bytes

-- after these entries the cause is so, if the seat may fail the unit
abbrev pub MayFail : ℕ → List (Entry Meaning) → Plain → ℕ → UnitId → Why → Type 0
MayFail jmax past m s u why = (x : UnitRow) → called m s u (λ x. true) ≡ Right x → HasCause jmax past m u.0 x why
