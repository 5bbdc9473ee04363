use Rattle.std.proofs.Common.{◌≡◌, refl, ap, arith, rules, ◌∙◌}
use Rattle.session_model.specs.declared.entry.Event.TheVariants as event
use Rattle.execution_session.proofs.Entries.{did_tell, did_fire}
use Rattle.session_steps.proofs.Declared.{stands, can_step}
use Rattle.execution_session.proofs.session.Session.remove.Goals as goal

pub check_places-requires : goal.check_places-requires
check_places-requires g c κs within = (within.0, (within.1, ((search rules), (refl, (c.self.invariant, (omega arith))))))

pub remove_tracker-reply-requires : goal.remove_tracker-reply-requires
remove_tracker-reply-requires g c κs within = (within.0, (within.1, stands g.U.UnitKind.meaning g.row.JMAX c.self.inside.live.parts c.self.inside.live.journal.items _ c.self.invariant))

pub enter_telling-requires-clause-can : goal.enter_telling-requires-clause-can
enter_telling-requires-clause-can g c = can_step g.U.UnitKind.meaning g.row.JMAX 1 c.self.inside.live c.remove_tracker-reply.new.self c.args.s (event.Remove c.args.t) c.remove_tracker-reply.result c.self.invariant c.remove_tracker-reply.ensures.rest refl c.in_default.ensures.places (c.remove_tracker-reply.ensures.step c.args.s.0).step

pub returns-clause-performs : goal.returns-clause-performs
returns-clause-performs g c =
    let seen : c.args.self.now.journal ≡ c.self.inside.live.journal.items = search rules in
    did_tell g.U.UnitKind.meaning g.row.JMAX 1 c.self.inside.live c.remove_tracker-reply.new.self c.args.self.now.journal c.enter_telling.new.live.journal.items c.args.s (event.Remove c.args.t) c.remove_tracker-reply.result c.enter_telling.result.answer seen c.self.invariant c.remove_tracker-reply.ensures.rest refl c.in_default.ensures.places (c.remove_tracker-reply.ensures.step c.args.s.0).step c.enter_telling.ensures.grown c.enter_telling.ensures.answer

pub returns-clause-fires : goal.returns-clause-fires
returns-clause-fires g c =
    let seen : c.self.inside.live.parts.book.armed ≡ c.args.self.now.armed = search rules in
    did_fire g.U.UnitKind.meaning c.enter_telling.result.answer c.remove_tracker-reply.result c.args.self.now _ c.remove_tracker-reply.new.self.parts.book.armed c.enter_telling.result.fires c.enter_telling.ensures.answer (ap (λ b. b.armed) (c.remove_tracker-reply.ensures.step c.args.s.0).book ∙ seen) c.enter_telling.ensures.fires
