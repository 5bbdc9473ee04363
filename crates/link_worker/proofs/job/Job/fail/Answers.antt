use Rattle.std.proofs.Common.{refl}
use Rattle.turn_lock.specs.Handles.{view}
use Rattle.materialization.specs.declared.stage.Stage.TheVariants as stage
use Rattle.link_worker.proofs.Stepping.{fail_steps}
use Rattle.link_worker.proofs.job.Job.fail.Goals as goal

pub returns-clause-steps : goal.returns-clause-steps
returns-clause-steps g c = fail_steps g.U.UnitKind.meaning g.N.Notify.heard g.row.JMAX (view c.args.pass.now) (view c.perform-fires.new.seat) c.args.self.now (stage.Fail c.args.why) c.requires.at c.args.why
    c.perform-fires.result.answer c.perform-fires.result.fires c.args.fired.now c.fire_all.new.done refl c.perform-fires.ensures.turned c.fire_all.ensures
