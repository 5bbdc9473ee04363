use Rattle.turn_lock.specs.Handles.{view, turn_id, IsReady}
use Rattle.link_worker.specs.Works.{IsFree}
use Rattle.threads_tests.proofs.link_worker_tests.play.play.Given as goal

abbrev pub invariant-loop-number : goal.invariant-loop-number
invariant-loop-number g l = IsReady (turn_id l.shared) l.pass × IsFree g.U.UnitKind.meaning (view l.pass)
