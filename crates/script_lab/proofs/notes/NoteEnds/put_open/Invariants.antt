use Rattle.query_book.specs.Rows.{armed_count}
use Rattle.script_lab.proofs.notes.NoteEnds.put_open.Given as goal

abbrev pub decreases-loop-armed : goal.decreases-loop-armed
decreases-loop-armed g l = armed_count l.session.armed
