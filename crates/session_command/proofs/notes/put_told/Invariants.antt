use Rattle.std.proofs.Common.{◌≡◌, length}
use Rattle.session_command.specs.Places.{put_told}
use Rattle.session_command.proofs.notes.put_told.Given as goal

abbrev pub invariant-loop-note : goal.invariant-loop-note
invariant-loop-note g l = put_told l.told l.places ≡ put_told l.fn.told l.fn.places

abbrev pub decreases-loop-note : goal.decreases-loop-note
decreases-loop-note g l = length l.told
