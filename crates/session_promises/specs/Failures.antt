-- Who fails at a failure.
use Rattle.std.specs.Prelude.{ℕ, Bool, false}
use Rattle.session_model.specs.Plain.{Plain, is_owned_at}
use Rattle.session_model.specs.Meaning.{Meaning}
use Rattle.session_model.specs.Change.{tracker_roots}
use Rattle.session_model.specs.declared.entry.Event.{Event}
use Rattle.session_model.specs.declared.entry.Event.TheVariants as event

-- what a fail strikes first: the unit's own instances; and a removal: those of the tracker's units
abbrev pub roots_of : Plain → Event Meaning → ℕ → Bool
roots_of m (event.Fail u why) i = is_owned_at u.0 m.rows i
roots_of m (event.Remove t) i = tracker_roots m t.0 i
roots_of m e i = false
