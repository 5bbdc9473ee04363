use Rattle.std.proofs.Common.{sym, subst}
use Rattle.turn_lock.specs.Handles.{view}
use Rattle.materialization.specs.declared.stage.Stage.TheVariants as stage
use Rattle.link_worker.specs.Jobs.{Steps}
use Rattle.link_worker.proofs.Stepping.{unfinished_steps}
use Rattle.link_worker.proofs.job.Job.emit.Goals as goal

pub returns-in-Err-clause-steps : goal.returns-in-Err-clause-steps
returns-in-Err-clause-steps g c = subst (Steps g.U.UnitKind.meaning g.N.Notify.heard g.row.JMAX (view c.args.pass.now) (view c.args.pass.now) c.args.fired.now c.args.fired.now c.args.self.now stage.Emit) (sym c.unfinished.ensures)
    (unfinished_steps g.U.UnitKind.meaning g.N.Notify.heard g.row.JMAX (view c.args.pass.now) c.args.self.now c.requires.at c.in-Err.why c.in-Err.ensures.refused c.args.fired.now)
