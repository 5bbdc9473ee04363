use Rattle.std.proofs.Common.{length}
use Rattle.query_book.specs.Board.{Arriving}
use Rattle.query_book.specs.Counts.{list_at}
use Rattle.query_book.proofs.board.arrive.Given as goal

abbrev pub invariant-loop-query : goal.invariant-loop-query
invariant-loop-query l = Arriving l.at l.initial.lists.lists l.lists.lists l.initial.marks l.marks

abbrev pub decreases-loop-query : goal.decreases-loop-query
decreases-loop-query l = length (list_at l.lists.lists l.at)
