use Rattle.std.proofs.Common.{sym, subst, Ok}
use Rattle.turn_lock.specs.Handles.{view}
use Rattle.materialization.specs.declared.stage.Stage.TheVariants as stage
use Rattle.link_worker.specs.Jobs.{IsJobAt, Steps}
use Rattle.link_worker.proofs.Stepping.{over_steps}
use Rattle.link_worker.proofs.job.Job.step.Goals as goal

pub returns-in-Place-clause-steps : goal.returns-in-Place-clause-steps
returns-in-Place-clause-steps g c = subst (λ st. Steps g.U.UnitKind.meaning g.N.Notify.heard g.row.JMAX (view c.args.pass.now) (view c.place.new.pass) c.args.fired.now c.args.fired.now c.args.self.now st c.place.result) (sym c.in-Place.is) (c.place.ensures.steps c.args.fired.now)

pub returns-in-Generate-clause-steps : goal.returns-in-Generate-clause-steps
returns-in-Generate-clause-steps g c = subst (λ st. Steps g.U.UnitKind.meaning g.N.Notify.heard g.row.JMAX (view c.args.pass.now) (view c.generate.new.pass) c.args.fired.now c.args.fired.now c.args.self.now st c.generate.result) (sym c.in-Generate.is) (c.generate.ensures.steps c.args.fired.now)

pub returns-in-Over-clause-steps : goal.returns-in-Over-clause-steps
returns-in-Over-clause-steps g c = subst (λ st. Steps g.U.UnitKind.meaning g.N.Notify.heard g.row.JMAX (view c.args.pass.now) (view c.args.pass.now) c.args.fired.now c.args.fired.now c.args.self.now st (Ok stage.Over)) (sym c.in-Over.is)
    (over_steps g.U.UnitKind.meaning g.N.Notify.heard g.row.JMAX (view c.args.pass.now) c.args.self.now (subst (IsJobAt g.U.UnitKind.meaning g.row.JMAX (view c.args.pass.now) c.args.self.now) c.in-Over.is c.requires.at) c.args.fired.now)
