use Rattle.turn_lock.specs.Handles.{turn_id, IsReady}
use Rattle.threads_tests.proofs.shared_session_tests.steps.play.Given as goal

abbrev pub invariant-loop-number : goal.invariant-loop-number
invariant-loop-number g l = IsReady (turn_id l.shared) l.pass
