use Rattle.std.proofs.Common.{◌≡◌, true, false}
use Rattle.std.specs.Prelude.{IfSome, is_none}
use Rattle.turn_lock.specs.Handles.{view, turn_id, IsReady}
use Rattle.link_worker.specs.Does.{Does}
use Rattle.link_worker.specs.Jobs.{IsJobAt, is_cut}
use Rattle.link_worker.specs.Units.{own_refusal}
use Rattle.link_worker.specs.Works.{Carries, WasStopped}
use Rattle.link_worker.proofs.job.Job.carry.Given as goal

abbrev pub invariant-loop : goal.invariant-loop
invariant-loop g l = IsReady (turn_id l.shared) l.pass
    × IsJobAt g.U.UnitKind.meaning g.row.JMAX (view l.pass) l.self l.stage
    × Does g.U.UnitKind.meaning g.N.Notify.heard (view l.fn.pass) (view l.pass) l.fn.fired l.fired (Carries l.self.unit (own_refusal g.U.UnitKind.meaning l.self) l.fn.first l.stage (is_none l.stopped))
    × (is_none l.stopped ≡ true → is_cut l.stage ≡ false)
    × IfSome l.stopped (WasStopped g.U.UnitKind.meaning g.row.JMAX (view l.fn.pass).seen (view l.pass).seen)
