use Rattle.turn_lock.specs.Handles.{turn_id, IsReady}
use Rattle.turn_soak.proofs.words.post_turns.Given as goal

abbrev pub invariant-loop-nth : goal.invariant-loop-nth
invariant-loop-nth g l = IsReady (turn_id l.turn) l.seat
