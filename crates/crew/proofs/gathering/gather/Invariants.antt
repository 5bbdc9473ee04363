use Rattle.std.proofs.Common.{◌≡◌, List, ◌++◌, All, length, map, vec_capacity}
use Rattle.std.specs.Vec.Iter.{into_iter_items, into_iter_len}
use Rattle.turn_lock.specs.Handles.{view, turn_id, IsReady}
use Rattle.crew.specs.Crew.{IsKept, Says}
use Rattle.crew.proofs.gathering.gather.Given as goal

abbrev pub invariant-loop-member : goal.invariant-loop-member
invariant-loop-member g l = record {
  ready : IsReady (turn_id l.turn) l.into;
  duties : l.duties.items ≡ map (λ m. m.duty) l.yielded;
  rest : l.yielded ++ into_iter_items l.member-iterator ≡ into_iter_items l.initial.member-iterator;
  left : into_iter_len l.member-iterator ≡ length (into_iter_items l.member-iterator);
  few : length l.duties.items ≡ length l.yielded;
  capacity : vec_capacity l.duties ≡ vec_capacity l.fn.room;
  kept : (log : List g.row.T-Entry.Denot) → Says g.T.Counted.seat_of log (view l.into) → Says g.T.Counted.seat_of log (view l.fn.into) × All (λ m. IsKept g.T.Counted.seat_of log (view m.seat)) l.yielded;
}
