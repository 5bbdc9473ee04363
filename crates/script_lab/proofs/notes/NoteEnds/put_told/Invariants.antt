use Rattle.std.proofs.Common.{length}
use Rattle.script_lab.proofs.notes.NoteEnds.put_told.Given as goal

abbrev pub decreases-loop-number : goal.decreases-loop-number
decreases-loop-number l = length l.told
