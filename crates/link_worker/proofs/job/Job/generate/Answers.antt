use Rattle.std.proofs.Common.{refl, sym, subst}
use Rattle.session_model.specs.declared.entry.Event.TheVariants as event
use Rattle.turn_lock.specs.Handles.{view}
use Rattle.materialization.specs.declared.stage.Stage.TheVariants as stage
use Rattle.link_worker.specs.Jobs.{Steps}
use Rattle.link_worker.proofs.Stepping.{knows_next, steps_quietly}
use Rattle.link_worker.proofs.job.Job.generate.Goals as goal

pub returns-clause-steps : goal.returns-clause-steps
returns-clause-steps g c = λ fired.
    let means = g.U.UnitKind.meaning in
    let v = view c.args.pass.now in
    let w = view c.perform-answer.new.seat in
    let at = stage.Generate c.args.generator in
    subst (Steps means g.N.Notify.heard g.row.JMAX v w fired fired c.args.self.now at) (sym c.next_by.ensures)
    (steps_quietly means g.N.Notify.heard g.row.JMAX v w c.args.self.now at c.requires.at (event.Generate c.args.generator) c.perform-answer.result c.perform-answer.ensures.turned refl refl refl refl (λ e. absurd (cc))
    (knows_next means g.N.Notify.heard g.row.JMAX v w c.args.self.now at c.requires.at c.perform-answer.result (λ e. cc)) fired)
