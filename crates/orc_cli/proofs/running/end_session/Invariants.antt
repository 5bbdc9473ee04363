use Rattle.query_book.specs.Rows.{armed_count}
use Rattle.orc_cli.proofs.running.end_session.Given as goal

abbrev pub decreases-loop-armed : goal.decreases-loop-armed
decreases-loop-armed g l = armed_count l.session.armed
