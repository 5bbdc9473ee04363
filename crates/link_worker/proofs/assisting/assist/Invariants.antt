use Rattle.turn_lock.specs.Handles.{view, turn_id, IsReady}
use Rattle.link_worker.specs.Does.{Does}
use Rattle.link_worker.specs.Works.{IsFree, WholeJobs}
use Rattle.link_worker.proofs.assisting.assist.Given as goal

abbrev pub invariant-loop : goal.invariant-loop
invariant-loop g l = IsReady (turn_id l.shared) l.pass
    × IsFree g.U.UnitKind.meaning (view l.pass)
    × Does g.U.UnitKind.meaning g.N.Notify.heard (view l.fn.pass) (view l.pass) l.fn.fired l.fired WholeJobs
