-- The calls that a fail may have its cause in, and what they were last answered.
use Rattle.std.specs.Prelude.{ℕ, Bool, ◌&&◌, not, Option}
use Rattle.session_model.specs.Lists.{or_else, only_if}
use Rattle.session_model.specs.Meaning.{Meaning}
use Rattle.session_model.specs.Answer.{is_link_of, is_emit_of, is_place_of, is_turned_away}
use Rattle.session_model.specs.declared.entry.Entry.{Entry}
use Rattle.session_model.specs.declared.entry.Event.{Event}
use Rattle.session_model.specs.declared.entry.Reply.{Reply}
use Rattle.session_past.specs.declared.causes.Call.{Call}
use Rattle.session_past.specs.declared.causes.Call.TheVariants as call

-- the event is such a call on the unit
abbrev pub is_call_of : Call → ℕ → Event Meaning → Bool
is_call_of call.Link u e = is_link_of u e
is_call_of call.Emit u e = is_emit_of u e
is_call_of call.Place u e = is_place_of u e

-- the last of two answers, where the second may be none of such a call
abbrev pub last_of : (Event Meaning → Bool) → Option Reply → Entry Meaning → Option Reply
last_of test found e = or_else (only_if (test e.event && not (is_turned_away e.reply)) e.reply) found
