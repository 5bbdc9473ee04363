use Rattle.std.proofs.Common.{◌≡◌, ap, ◌∙◌, refl, arith, rules}
use Rattle.session_model.specs.declared.entry.Event.TheVariants as event
use Rattle.session_steps.proofs.Declared.{stands, can_step, did_step}
use Rattle.execution_session.proofs.session.Session.tracker.Goals as goal

pub check_places-requires : goal.check_places-requires
check_places-requires g c κs within = (within.0, (within.1, ((search rules), (refl, (c.self.invariant, (omega arith))))))

pub make_tracker-requires : goal.make_tracker-requires
make_tracker-requires g c κs within = (within.0, (within.1, stands g.U.UnitKind.meaning g.row.JMAX c.self.inside.live.parts c.self.inside.live.journal.items _ c.self.invariant))

pub enter_quietly-requires-clause-can : goal.enter_quietly-requires-clause-can
enter_quietly-requires-clause-can g c = can_step g.U.UnitKind.meaning g.row.JMAX 1 c.self.inside.live c.make_tracker.new.self c.args.s (event.Tracker c.args.d) c.in-Ok.reply c.self.invariant c.in-Ok.ensures.rest refl c.in_ok-check_places.ensures.places (c.in-Ok.ensures.step c.args.s.0).step

pub returns-clause-performs : goal.returns-clause-performs
returns-clause-performs g c =
    let seen : c.args.self.now.journal ≡ c.self.inside.live.journal.items = search rules in
    did_step g.U.UnitKind.meaning g.row.JMAX 1 c.self.inside.live c.make_tracker.new.self c.args.self.now.journal c.enter_quietly.new.live.journal.items c.args.s (event.Tracker c.args.d) c.in-Ok.reply c.enter_quietly.result seen c.self.invariant c.in-Ok.ensures.rest refl c.in_ok-check_places.ensures.places (c.in-Ok.ensures.step c.args.s.0).step c.enter_quietly.ensures.grown c.enter_quietly.ensures.reply

pub returns-clause-armed : goal.returns-clause-armed
returns-clause-armed g c =
    let seen : c.self.inside.live.parts.book.armed ≡ c.args.self.now.armed = search rules in
    c.enter_quietly.ensures.armed ∙ (ap (λ b. b.armed) (c.in-Ok.ensures.step c.args.s.0).book ∙ seen)
