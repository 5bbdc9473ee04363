use Rattle.std.proofs.Common.{◌≡◌, refl, arith, rules}
use Rattle.session_model.specs.declared.entry.Event.TheVariants as event
use Rattle.execution_session.proofs.Entries.{did_tell}
use Rattle.session_steps.proofs.Declared.{stands, can_step}
use Rattle.execution_session.proofs.session.Session.resolve.Goals as goal

pub check_places-requires : goal.check_places-requires
check_places-requires g c κs within = (within.0, (within.1, ((search rules), (refl, (c.self.invariant, (omega arith))))))

pub resolve_unit-reply-requires : goal.resolve_unit-reply-requires
resolve_unit-reply-requires g c κs within = (within.0, (within.1, stands g.U.UnitKind.meaning g.row.JMAX c.self.inside.live.parts c.self.inside.live.journal.items _ c.self.invariant))

pub enter_telling-requires-clause-can : goal.enter_telling-requires-clause-can
enter_telling-requires-clause-can g c = can_step g.U.UnitKind.meaning g.row.JMAX 1 c.self.inside.live c.resolve_unit-reply.new.self c.args.s (event.Resolve c.args.u) c.resolve_unit-reply.result c.self.invariant c.resolve_unit-reply.ensures.rest refl c.in_default.ensures.places c.resolve_unit-reply.ensures.step.step

pub returns-clause-performs : goal.returns-clause-performs
returns-clause-performs g c =
    let seen : c.args.self.now.journal ≡ c.self.inside.live.journal.items = search rules in
    did_tell g.U.UnitKind.meaning g.row.JMAX 1 c.self.inside.live c.resolve_unit-reply.new.self c.args.self.now.journal c.enter_telling.new.live.journal.items c.args.s (event.Resolve c.args.u) c.resolve_unit-reply.result c.enter_telling.result.answer seen c.self.invariant c.resolve_unit-reply.ensures.rest refl c.in_default.ensures.places c.resolve_unit-reply.ensures.step.step c.enter_telling.ensures.grown c.enter_telling.ensures.answer
