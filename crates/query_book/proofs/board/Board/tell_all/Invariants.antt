use Rattle.std.proofs.Common.{List, take}
use Rattle.session_model.specs.declared.rows.Query.{Query}
use Rattle.query_book.specs.Board.{Watches, AreHeard}
use Rattle.query_book.proofs.board.Board.tell_all.Given as goal

abbrev pub invariant-loop-i : goal.invariant-loop-i
invariant-loop-i g l = (qs : List Query) → Watches qs l.initial.self → AreHeard (g.T.Standing.stand l.standing) qs (take l.i-index l.changed) l.initial.self l.self
