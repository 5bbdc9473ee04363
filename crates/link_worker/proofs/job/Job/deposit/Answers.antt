use Rattle.std.proofs.Common.{refl, sym, subst, eq-eqb}
use Rattle.session_model.specs.declared.entry.Event.TheVariants as event
use Rattle.turn_lock.specs.Handles.{view}
use Rattle.materialization.specs.declared.stage.Stage.TheVariants as stage
use Rattle.link_worker.specs.Jobs.{Steps}
use Rattle.link_worker.proofs.Stepping.{knows_next, steps_told}
use Rattle.link_worker.proofs.job.Job.deposit.Goals as goal

pub perform-answer-requires-clause-may : goal.perform-answer-requires-clause-may
perform-answer-requires-clause-may g c = c.requires.at.knows.emits c.args.made c.requires.made

pub returns-clause-steps : goal.returns-clause-steps
returns-clause-steps g c =
    let means = g.U.UnitKind.meaning in
    let v = view c.args.pass.now in
    let w = view c.perform-answer.new.seat in
    let old = c.args.fired.now in
    let new = c.fire_all.new.done in
    subst (Steps means g.N.Notify.heard g.row.JMAX v w old new c.args.self.now stage.Emit) (sym c.next_by.ensures)
    (steps_told means g.N.Notify.heard g.row.JMAX v w c.args.self.now stage.Emit c.requires.at (event.Emit c.args.self.now.unit c.args.made.groups) c.perform-answer.result.answer c.perform-answer.result.fires old new
    c.perform-answer.ensures.turned c.fire_all.ensures (eq-eqb c.args.self.now.unit.0 c.args.self.now.unit.0 refl) refl refl (λ e. c.requires.made.allowed)
    (knows_next means g.N.Notify.heard g.row.JMAX v w c.args.self.now stage.Emit c.requires.at c.perform-answer.result.answer (λ e. cc)))
