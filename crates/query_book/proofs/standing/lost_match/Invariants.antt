use Rattle.std.proofs.Common.{◌≡◌, drop}
use Rattle.query_book.specs.Stands.{first_lost}
use Rattle.query_book.proofs.standing.lost_match.Given as goal

abbrev pub invariant-loop-found : goal.invariant-loop-found
invariant-loop-found g l = first_lost (g.T.Standing.stand l.standing) (drop l.found-index l.matched) ≡ first_lost (g.T.Standing.stand l.standing) l.matched
