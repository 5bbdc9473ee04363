-- A call on a unit that isn't right at it, and how it is answered.
use Rattle.std.specs.Prelude.{◌≡◌, ◌⊎◌, ℕ, Bool, true, ◌&&◌, List, length, slice_get, Option, Some, None, if◌then◌else◌}
use Rattle.std.specs.Option.{option_map_or}
use Rattle.orc_ids.specs.declared.ids.UnitId.{UnitId}
use Rattle.session_model.specs.Meaning.{Meaning}
use Rattle.session_model.specs.Plain.{Plain, UnitRow, is_defunct}
use Rattle.session_model.specs.Answer.{Called, Gone, Wrong, called, is_held, can_place, can_resolve, can_link, can_emit}
use Rattle.session_model.specs.declared.entry.Reply.{Reply}
use Rattle.session_model.specs.declared.entry.Reply.TheVariants as reply
use Rattle.mat_unit.specs.declared.unit.Unit.{Unit as OneUnit}
use Rattle.mat_unit.specs.Rows.{unit_row}
use Rattle.session_replies.specs.declared.calls.Call.{Call}
use Rattle.session_replies.specs.declared.calls.Call.TheVariants as call

-- the unit is at the phase of the call
abbrev pub fits : Call → UnitRow → Bool
fits call.Place = can_place
fits call.Resolve = can_resolve
fits call.Link = can_link
fits call.Emit = can_emit
fits call.Fail = λ x. true

-- the unit is gone; or it isn't at the phase of the call, or not held by the seat
abbrev pub IsTurnedFrom : Called → UnitId → Reply → Type 0
IsTurnedFrom c u r = ((c ≡ Gone) × (r ≡ reply.Defunct u)) ⊎ ((c ≡ Wrong) × (r ≡ reply.WrongPhase u))

abbrev pub IsTurned : Plain → ℕ → UnitId → (UnitRow → Bool) → Reply → Type 0
IsTurned m s u fits r = IsTurnedFrom (called m s u fits) u r

-- the unit's row, as calls see it: which tracker it is of plays no part
abbrev pub seen : {U : Type 0} → (U → Meaning) → OneUnit U → UnitRow
seen means x = unit_row means 0 x

-- the answer of a call that isn't right, at a unit that is there
abbrev pub turned_away : ℕ → UnitId → Bool → UnitRow → Option Reply
turned_away s u fits x = if is_defunct x.phase then Some (reply.Defunct u) else (if is_held s x && fits then None else Some (reply.WrongPhase u))

-- and where there may be none
abbrev pub wrong_call : ℕ → UnitId → (UnitRow → Bool) → Option UnitRow → Option Reply
wrong_call s u fits found = option_map_or (λ x. turned_away s u (fits x) x) found (Some (reply.WrongPhase u))

-- a unit has a flag for each name that it offers
abbrev pub HasFlags : {U : Type 0} → (U → Meaning) → OneUnit U → Type 0
HasFlags means x = length x.live ≡ length (means x.unit).offers

abbrev pub HaveFlags : {U : Type 0} → (U → Meaning) → List (OneUnit U) → Type 0
HaveFlags {U} means units = (u : ℕ) (x : OneUnit U) → slice_get units u ≡ Some x → HasFlags means x
