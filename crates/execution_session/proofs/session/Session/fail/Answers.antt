use Rattle.std.proofs.Common.{◌≡◌, refl, ap, sym, subst, ◌∙◌, rules, slice_get}
use Rattle.session_model.specs.State.{plain_history}
use Rattle.session_model.specs.declared.entry.Event.TheVariants as event
use Rattle.session_steps.specs.Allowed.{MayFail}
use Rattle.session_steps.specs.Performs.{state_of}
use Rattle.execution_session.proofs.Entries.{did_fire}
use Rattle.execution_session.proofs.GivingUp.{can_fail, did_fail, holder_has_place}
use Rattle.execution_session.proofs.Entries.{was_full}
use Rattle.session_steps.proofs.Declared.{stands}
use Rattle.execution_session.proofs.session.Session.fail.Goals as goal

pub check_places-requires : goal.check_places-requires
check_places-requires g c κs within = (within.0, (within.1, ((search rules), (refl, (c.self.invariant, c.places_to_fail-places.ensures.few)))))

pub fail_unit-reply-requires : goal.fail_unit-reply-requires
fail_unit-reply-requires g c κs within = (within.0, (within.1, stands g.U.UnitKind.meaning g.row.JMAX c.self.inside.live.parts c.self.inside.live.journal.items _ c.self.invariant))

pub returns-in-Err-clause-performs : goal.returns-in-Err-clause-performs
returns-in-Err-clause-performs g c =
    let seen : c.args.self.now.journal ≡ c.self.inside.live.journal.items = search rules in
    was_full g.U.UnitKind.meaning g.row.JMAX c.places_to_fail-places.result c.self.inside.live.journal.items c.args.self.now.journal c.args.s (event.Fail c.args.u c.args.why) c.in-Err.stop c.stopped.result.answer seen (sym (c.places_to_fail-places.ensures.places c.args.why)) c.in-Err.ensures.full c.stopped.ensures.answer

pub returns-in-Err-clause-held : goal.returns-in-Err-clause-held
returns-in-Err-clause-held g c = λ x at held.
    let seen : c.args.self.now.journal ≡ c.self.inside.live.journal.items = search rules in
    absurd (holder_has_place g.U.UnitKind.meaning g.row.JMAX c.places_to_fail-places.result c.self.inside.live c.args.s c.args.u x c.args.why c.self.invariant (ap (λ h. slice_get (state_of g.U.UnitKind.meaning h).units c.args.u.0) (sym seen) ∙ at) held (sym (c.places_to_fail-places.ensures.places c.args.why)) c.in-Err.ensures.full.1)

pub enter_telling-requires-clause-can : goal.enter_telling-requires-clause-can
enter_telling-requires-clause-can g c =
    let seen : c.args.self.now.journal ≡ c.self.inside.live.journal.items = search rules in
    can_fail g.U.UnitKind.meaning g.row.JMAX c.places_to_fail-places.result c.self.inside.live c.fail_unit-reply.new.self c.args.s c.args.u c.args.why c.fail_unit-reply.result c.self.invariant c.fail_unit-reply.ensures.rest (sym (c.places_to_fail-places.ensures.places c.args.why)) c.in_default.ensures.places
    (subst (λ h. MayFail g.row.JMAX (plain_history g.U.UnitKind.meaning h) (state_of g.U.UnitKind.meaning h) c.args.s.0 c.args.u c.args.why) seen c.requires.cause) (c.fail_unit-reply.ensures.step c.args.why)

pub returns-clause-performs : goal.returns-clause-performs
returns-clause-performs g c =
    let seen : c.args.self.now.journal ≡ c.self.inside.live.journal.items = search rules in
    did_fail g.U.UnitKind.meaning g.row.JMAX c.places_to_fail-places.result c.self.inside.live c.fail_unit-reply.new.self c.args.self.now.journal c.enter_telling.new.live.journal.items c.args.s c.args.u c.args.why c.fail_unit-reply.result c.enter_telling.result.answer seen c.self.invariant c.fail_unit-reply.ensures.rest (sym (c.places_to_fail-places.ensures.places c.args.why)) c.in_default.ensures.places
    (subst (λ h. MayFail g.row.JMAX (plain_history g.U.UnitKind.meaning h) (state_of g.U.UnitKind.meaning h) c.args.s.0 c.args.u c.args.why) seen c.requires.cause) (c.fail_unit-reply.ensures.step c.args.why) c.enter_telling.ensures.grown c.enter_telling.ensures.answer

pub returns-clause-fires : goal.returns-clause-fires
returns-clause-fires g c =
    let seen : c.self.inside.live.parts.book.armed ≡ c.args.self.now.armed = search rules in
    did_fire g.U.UnitKind.meaning c.enter_telling.result.answer c.fail_unit-reply.result c.args.self.now _ c.fail_unit-reply.new.self.parts.book.armed c.enter_telling.result.fires c.enter_telling.ensures.answer (ap (λ b. b.armed) (c.fail_unit-reply.ensures.step c.args.why).book ∙ seen) c.enter_telling.ensures.fires
