use Rattle.std.proofs.Common.{refl, sym, subst}
use Rattle.session_model.specs.declared.entry.Event.TheVariants as event
use Rattle.turn_lock.specs.Handles.{view}
use Rattle.materialization.specs.declared.stage.Stage.TheVariants as stage
use Rattle.link_worker.specs.Jobs.{Steps}
use Rattle.link_worker.proofs.AliasStep.{alias_knows}
use Rattle.link_worker.proofs.Stepping.{always_tells, steps_told}
use Rattle.link_worker.proofs.job.Job.resolve_alias.Goals as goal

pub returns-clause-steps : goal.returns-clause-steps
returns-clause-steps g c =
    let means = g.U.UnitKind.meaning in
    let v = view c.args.pass.now in
    let w = view c.perform-answer.new.seat in
    let old = c.args.fired.now in
    let new = c.fire_all.new.done in
    let turned = always_tells means g.row.JMAX v w (event.Resolve c.args.self.now.unit) c.perform-answer.result.answer c.perform-answer.result.fires c.perform-answer.ensures.turned in
    subst (Steps means g.N.Notify.heard g.row.JMAX v w old new c.args.self.now stage.ResolveAlias) (sym c.next_by.ensures)
    (steps_told means g.N.Notify.heard g.row.JMAX v w c.args.self.now stage.ResolveAlias c.requires.at (event.Resolve c.args.self.now.unit) c.perform-answer.result.answer c.perform-answer.result.fires old new
    turned c.fire_all.ensures refl refl refl (λ e. absurd (cc))
    (alias_knows means g.N.Notify.heard g.row.JMAX v w c.args.self.now c.requires.at c.perform-answer.result.answer c.perform-answer.result.fires turned))
