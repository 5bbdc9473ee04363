use Rattle.std.proofs.Common.{◌≡◌, ◌≤◌, length, map, take}
use Rattle.std.specs.Vec.{vec_capacity}
use Rattle.query_book.specs.Stands.{with_address}
use Rattle.query_book.proofs.standing.addresses_in.Given as goal

abbrev pub invariant-loop-found : goal.invariant-loop-found
invariant-loop-found g l = record {
  so_far : l.room.items ≡ map (with_address (g.T.Standing.stand l.standing)) (take l.found-index l.matched);
  room : length l.matched ≤ vec_capacity l.room;
}
