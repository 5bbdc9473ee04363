use Rattle.std.proofs.Common.{◌≡◌, ◌+◌, ℕ, List, ◌++◌, length, map, vec_capacity}
use Rattle.std.specs.Vec.Iter.{into_iter_items, into_iter_len}
use Rattle.atomic_table.specs.Seated.{TableId}
use Rattle.crew.specs.Crew.{AreSeats, AreSeated}
use Rattle.crew.proofs.seating.seat_duties.Given as goal

abbrev pub invariant-loop-duty : goal.invariant-loop-duty
invariant-loop-duty g l = record {
  duties : map (λ m. m.duty) l.members.items ≡ l.yielded;
  rest : l.yielded ++ into_iter_items l.duty-iterator ≡ into_iter_items l.initial.duty-iterator;
  left : into_iter_len l.duty-iterator ≡ length (into_iter_items l.duty-iterator);
  count : length l.seats.items + length l.yielded ≡ length l.fn.duties.items;
  few : length l.members.items ≡ length l.yielded;
  capacity : vec_capacity l.members ≡ vec_capacity l.fn.room;
  seated : (turn : TableId) (from : ℕ) (seen : List g.row.T-Entry.Denot) → AreSeats turn from seen l.fn.seats.items →
      AreSeats turn from seen l.seats.items × AreSeated turn (from + length l.fn.duties.items) seen l.members.items;
}
