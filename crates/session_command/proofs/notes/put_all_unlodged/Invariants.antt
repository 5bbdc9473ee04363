use Rattle.std.proofs.Common.{◌≡◌, length}
use Rattle.session_command.specs.Places.{NoneHasHeard}
use Rattle.session_command.proofs.notes.put_all_unlodged.Given as goal

abbrev pub invariant-loop-notes : goal.invariant-loop-notes
invariant-loop-notes g l = NoneHasHeard g.N.Notify.heard l.places × (length l.places ≡ length l.fn.places)
