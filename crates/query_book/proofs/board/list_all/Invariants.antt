use Rattle.std.proofs.Common.{drop}
use Rattle.query_book.proofs.Listing.{IsListing}
use Rattle.query_book.proofs.board.list_all.Given as goal

abbrev pub invariant-loop-found : goal.invariant-loop-found
invariant-loop-found l = IsListing l.query l.matched (drop l.found-index l.matched) l.initial.lists.lists l.lists.lists l.lists.spare
