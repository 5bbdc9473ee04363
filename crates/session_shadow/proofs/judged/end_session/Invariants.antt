use Rattle.query_book.specs.Rows.{armed_count}
use Rattle.session_shadow.proofs.judged.end_session.Given as goal

abbrev pub decreases-loop-armed : goal.decreases-loop-armed
decreases-loop-armed g l = armed_count l.session.armed
