use Rattle.query_book.specs.Rows.{armed_count}
use Rattle.gen_command.proofs.session.end_session.Given as goal

abbrev pub decreases-loop-armed : goal.decreases-loop-armed
decreases-loop-armed g l = armed_count l.session.armed
