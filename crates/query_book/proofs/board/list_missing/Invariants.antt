use Rattle.std.proofs.Common.{◌≡◌, ◌+◌, ◌≤◌, length, map, drop}
use Rattle.std.specs.List.{filter_map}
use Rattle.query_book.specs.Stands.{missing_of}
use Rattle.query_book.proofs.Listing.{IsListing}
use Rattle.query_book.proofs.board.list_missing.Given as goal

abbrev pub invariant-loop-found : goal.invariant-loop-found
invariant-loop-found g l = record {
  listing : IsListing l.query (map (missing_of (g.T.Standing.stand l.standing) l.level) l.matched) (map (missing_of (g.T.Standing.stand l.standing) l.level) (drop l.found-index l.matched)) l.initial.lists.lists l.lists.lists l.lists.spare;
  left : l.left + length (filter_map (missing_of (g.T.Standing.stand l.standing) l.level) (drop l.found-index l.matched)) ≡ length (filter_map (missing_of (g.T.Standing.stand l.standing) l.level) l.matched);
  few : l.left ≤ l.found-index;
}
