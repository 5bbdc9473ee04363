use Rattle.std.proofs.Common.{All}
use Rattle.turn_lock.specs.Handles.{turn_id, IsReady}
use Rattle.turn_soak.proofs.soak.joined.Given as goal

abbrev pub invariant-loop-seat : goal.invariant-loop-seat
invariant-loop-seat l = IsReady (turn_id l.turn) l.last × All (λ m. IsReady (turn_id l.turn) m.seat) l.members.items

abbrev pub decreases-loop-seat : goal.decreases-loop-seat
decreases-loop-seat l = goal.left-loop-seat l
