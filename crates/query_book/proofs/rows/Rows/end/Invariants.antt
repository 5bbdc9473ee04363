use Rattle.std.proofs.Common.{vec_len}
use Rattle.query_book.proofs.rows.Rows.end.Given as goal

abbrev pub decreases-loop-left : goal.decreases-loop-left
decreases-loop-left g l = vec_len l.armed
