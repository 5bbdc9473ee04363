use Rattle.std.proofs.Common.{◌≡◌, ◌+◌, length, vec_capacity}
use Rattle.turn_lock.specs.Handles.{view, turn_id, IsReady}
use Rattle.crew.specs.Crew.{AreSeats}
use Rattle.crew.proofs.seating.new_seats.Given as goal

abbrev pub invariant-loop-seat : goal.invariant-loop-seat
invariant-loop-seat g l = IsReady (turn_id l.turn) l.first × (view l.first ≡ record (view l.fn.first) { spare_from = (view l.fn.first).spare_from + l._seat }) × (length l.seats.items ≡ l._seat) × (vec_capacity l.seats ≡ vec_capacity l.fn.room)
    × AreSeats (turn_id l.turn) (view l.fn.first).spare_from (view l.fn.first).seen l.seats.items
