use Rattle.std.proofs.Common.{◌≡◌, ap, subst, ◌∙◌, refl, IfErr}
use Rattle.orc_ids.specs.declared.lookup.Stop.TheVariants as stop
use Rattle.session_model.specs.declared.entry.Event.TheVariants as event
use Rattle.session_steps.specs.Performs.{state_of}
use Rattle.session_steps.proofs.Declared.{told_step, did_perform, lacked_memory, stands, can_step, did_step}
use Rattle.execution_session.proofs.definitions.define_shared.Goals as goal
use Rattle.execution_session.proofs.definitions.define_shared.Goals.{in-Ok, in-Err}

pub define-answer-requires : goal.define-answer-requires
define-answer-requires g c κs within = (
  within.0,
  (
    within.1,
    (stands g.U.UnitKind.meaning g.row.JMAX c.args.live.now.parts c.args.live.now.journal.items _ c.requires.rest, c.requires.source),
  ),
)

pub enter_quietly-requires-clause-can : goal.enter_quietly-requires-clause-can
enter_quietly-requires-clause-can g c = can_step g.U.UnitKind.meaning g.row.JMAX 1 c.args.live.now c.define-answer.new.self c.args.s (event.Define c.args.d c.args.t c.args.share) c.in-Ok.reply c.requires.rest c.define-answer.ensures.rest refl c.requires.place
    (told_step g.U.UnitKind.meaning (state_of g.U.UnitKind.meaning c.args.live.now.journal.items) c.args.s.0 (event.Define c.args.d c.args.t) c.args.unit c.args.share c.define-answer.result.answer c.in-Ok.reply c.args.live.now.parts c.define-answer.new.self.parts c.requires.same c.in-Ok.is c.define-answer.ensures.step)

pub returns-clause-performs : goal.returns-clause-performs
returns-clause-performs g c = elim c.match-answer.branch [
  | in-Ok w ↦ did_perform g.U.UnitKind.meaning g.row.JMAX c.args.live.now.journal.items c.match-answer.live.journal.items c.args.s (event.Define c.args.d c.args.t c.args.share) c.match-answer.answer w.enter_quietly.result w.answer-is
      (did_step g.U.UnitKind.meaning g.row.JMAX 1 c.args.live.now c.define-answer.new.self c.args.live.now.journal.items c.match-answer.live.journal.items c.args.s (event.Define c.args.d c.args.t c.args.share) w.in-Ok.reply w.enter_quietly.result refl c.requires.rest c.define-answer.ensures.rest refl c.requires.place
      (told_step g.U.UnitKind.meaning (state_of g.U.UnitKind.meaning c.args.live.now.journal.items) c.args.s.0 (event.Define c.args.d c.args.t) c.args.unit c.args.share c.define-answer.result.answer w.in-Ok.reply c.args.live.now.parts c.define-answer.new.self.parts c.requires.same w.in-Ok.is c.define-answer.ensures.step)
      (ap (λ l. l.journal.items) w.live-is ∙ w.enter_quietly.ensures.grown) w.enter_quietly.ensures.reply)
  | in-Err w ↦ lacked_memory g.U.UnitKind.meaning g.row.JMAX c.args.live.now.journal.items c.match-answer.live.journal.items c.args.s (event.Define c.args.d c.args.t c.args.share) c.match-answer.answer w.in-Err.stop w.answer-is
      (subst (λ a. IfErr a (λ why. why ≡ stop.NoMemory)) w.in-Err.is c.define-answer.ensures.why)
      (ap (λ l. l.journal.items) w.live-is ∙ ap (λ l. l.journal.items) c.define-answer.ensures.rest)
]
