use Rattle.std.proofs.Common.{refl, sym, subst, eq-eqb}
use Rattle.turn_lock.specs.Handles.{view}
use Rattle.materialization.specs.declared.stage.Stage.TheVariants as stage
use Rattle.link_worker.specs.Jobs.{Steps}
use Rattle.link_worker.proofs.Stepping.{knows_next, steps_placing}
use Rattle.link_worker.proofs.job.Job.place.Goals as goal

pub returns-clause-steps : goal.returns-clause-steps
returns-clause-steps g c = λ fired.
    let means = g.U.UnitKind.meaning in
    let v = view c.args.pass.now in
    let w = view c.perform-answer.new.seat in
    subst (Steps means g.N.Notify.heard g.row.JMAX v w fired fired c.args.self.now stage.Place) (sym c.next_by.ensures)
    (steps_placing means g.N.Notify.heard g.row.JMAX v w c.args.self.now stage.Place c.requires.at c.args.self.now.unit c.shape-shape.result c.perform-answer.result c.perform-answer.ensures.turned
    (eq-eqb c.args.self.now.unit.0 c.args.self.now.unit.0 refl) refl (λ e. absurd (cc))
    (knows_next means g.N.Notify.heard g.row.JMAX v w c.args.self.now stage.Place c.requires.at c.perform-answer.result (λ e. cc)) fired)
