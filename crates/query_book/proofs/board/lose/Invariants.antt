use Rattle.std.proofs.Common.{length}
use Rattle.query_book.specs.Board.{Losing}
use Rattle.query_book.specs.Counts.{list_at}
use Rattle.query_book.proofs.board.lose.Given as goal

abbrev pub invariant-loop-query : goal.invariant-loop-query
invariant-loop-query l = Losing l.at l.initial.all.lists l.all.lists l.initial.marks l.marks

abbrev pub decreases-loop-query : goal.decreases-loop-query
decreases-loop-query l = length (list_at l.all.lists l.at)
