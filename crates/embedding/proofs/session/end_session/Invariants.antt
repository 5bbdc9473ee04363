use Rattle.query_book.specs.Rows.{armed_count}
use Rattle.embedding.proofs.session.end_session.Given as goal

abbrev pub decreases-loop-armed : goal.decreases-loop-armed
decreases-loop-armed l = armed_count l.session.armed
