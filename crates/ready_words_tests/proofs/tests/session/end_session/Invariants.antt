use Rattle.query_book.specs.Rows.{armed_count}
use Rattle.ready_words_tests.proofs.tests.session.end_session.Given as goal

abbrev pub decreases-loop-armed : goal.decreases-loop-armed
decreases-loop-armed l = armed_count l.session.armed
