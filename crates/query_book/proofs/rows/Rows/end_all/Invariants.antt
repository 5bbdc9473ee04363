use Rattle.std.proofs.Common.{drop}
use Rattle.query_book.proofs.Endings.{AreEnding}
use Rattle.query_book.proofs.rows.Rows.end_all.Given as goal

abbrev pub invariant-loop-query : goal.invariant-loop-query
invariant-loop-query g l = AreEnding l.at (g.T.Standing.stand l.standing) l.met (drop l.query-index l.met) l.initial.self l.self l.initial.fires l.fires
