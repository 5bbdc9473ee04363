use Rattle.std.proofs.Common.{◌≡◌, length}
use Rattle.query_book.specs.Rows.{armed_count}
use Rattle.session_command.specs.Places.{NoneHasHeard}
use Rattle.session_command.proofs.notes.put_armed.Given as goal

abbrev pub invariant-loop-armed : goal.invariant-loop-armed
invariant-loop-armed g l = NoneHasHeard g.N.Notify.heard l.places × (length l.places ≡ length l.fn.places)

abbrev pub decreases-loop-armed : goal.decreases-loop-armed
decreases-loop-armed g l = armed_count l.session.armed
