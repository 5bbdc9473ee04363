use Rattle.std.proofs.Common.{◌≡◌, length}
use Rattle.session_command.specs.Places.{NoneHasHeard}
use Rattle.session_command.proofs.notes.put_unlodged.Given as goal

abbrev pub invariant-loop-note : goal.invariant-loop-note
invariant-loop-note g l = NoneHasHeard g.N.Notify.heard l.places × (length l.places ≡ length l.fn.places)
