use Rattle.std.proofs.Common.{◌≤◌}
use Rattle.turn_lock.specs.Handles.{turn_id, IsReady}
use Rattle.turn_soak.proofs.words.read_words.Given as goal

abbrev pub invariant-loop-nth : goal.invariant-loop-nth
invariant-loop-nth l = IsReady (turn_id l.turn) l.seat × (l.found ≤ l.nth)
