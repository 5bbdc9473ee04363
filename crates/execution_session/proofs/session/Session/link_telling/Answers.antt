use Rattle.std.proofs.Common.{◌≡◌, refl, arith, rules}
use Rattle.session_model.specs.declared.entry.Event.TheVariants as event
use Rattle.session_steps.proofs.Declared.{counted, stands, can_step, did_step}
use Rattle.execution_session.proofs.session.Session.link_telling.Goals as goal

pub check_places-requires : goal.check_places-requires
check_places-requires g c κs within = (within.0, (within.1, ((search rules), (refl, (c.self.invariant, (omega arith))))))

pub link_unit-requires : goal.link_unit-requires
link_unit-requires g c κs within = (within.0, (within.1, (stands g.U.UnitKind.meaning g.row.JMAX c.self.inside.live.parts c.self.inside.live.journal.items _ c.self.invariant, counted g.U.UnitKind.meaning c.self.inside.live.journal.items)))

pub enter_stirring-requires-clause-can : goal.enter_stirring-requires-clause-can
enter_stirring-requires-clause-can g c = can_step g.U.UnitKind.meaning g.row.JMAX 1 c.self.inside.live c.link_unit.new.self c.args.s (event.Link c.args.u) c.in-Ok.reply c.self.invariant c.in-Ok.ensures.rest refl c.in_ok-check_places.ensures.places c.in-Ok.ensures.step.step

pub returns-clause-performs : goal.returns-clause-performs
returns-clause-performs g c =
    let seen : c.args.self.now.journal ≡ c.self.inside.live.journal.items = search rules in
    did_step g.U.UnitKind.meaning g.row.JMAX 1 c.self.inside.live c.link_unit.new.self c.args.self.now.journal c.enter_stirring.new.live.journal.items c.args.s (event.Link c.args.u) c.in-Ok.reply c.enter_stirring.result seen c.self.invariant c.in-Ok.ensures.rest refl c.in_ok-check_places.ensures.places c.in-Ok.ensures.step.step c.enter_stirring.ensures.grown c.enter_stirring.ensures.reply
