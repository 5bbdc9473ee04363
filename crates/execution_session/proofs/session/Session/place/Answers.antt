use Rattle.std.proofs.Common.{◌≡◌, refl, arith, rules, subst}
use Rattle.session_model.specs.declared.entry.Event.TheVariants as event
use Rattle.session_steps.specs.Allowed.{MayPlace}
use Rattle.session_steps.specs.Performs.{state_of}
use Rattle.session_steps.proofs.Declared.{stands, can_step, did_step}
use Rattle.execution_session.proofs.session.Session.place.Goals as goal

pub check_places-requires : goal.check_places-requires
check_places-requires g c κs within = (within.0, (within.1, ((search rules), (refl, (c.self.invariant, (omega arith))))))

pub place_unit-requires : goal.place_unit-requires
place_unit-requires g c κs within =
    let seen : c.args.self.now.journal ≡ c.self.inside.live.journal.items = search rules in (
      within.0,
      (
        within.1,
        (
          stands g.U.UnitKind.meaning g.row.JMAX c.self.inside.live.parts c.self.inside.live.journal.items _ c.self.invariant,
          subst (λ h. MayPlace (state_of g.U.UnitKind.meaning h) c.args.s.0 c.args.u c.args.shape) seen c.requires,
        ),
      ),
    )

pub enter_quietly-requires-clause-can : goal.enter_quietly-requires-clause-can
enter_quietly-requires-clause-can g c = can_step g.U.UnitKind.meaning g.row.JMAX 1 c.self.inside.live c.place_unit.new.self c.args.s (event.Place c.args.u c.args.shape) c.in-Ok.reply c.self.invariant c.in-Ok.ensures.rest refl c.in_ok-check_places.ensures.places c.in-Ok.ensures.step.step

pub returns-clause-performs : goal.returns-clause-performs
returns-clause-performs g c =
    let seen : c.args.self.now.journal ≡ c.self.inside.live.journal.items = search rules in
    did_step g.U.UnitKind.meaning g.row.JMAX 1 c.self.inside.live c.place_unit.new.self c.args.self.now.journal c.enter_quietly.new.live.journal.items c.args.s (event.Place c.args.u c.args.shape) c.in-Ok.reply c.enter_quietly.result seen c.self.invariant c.in-Ok.ensures.rest refl c.in_ok-check_places.ensures.places c.in-Ok.ensures.step.step c.enter_quietly.ensures.grown c.enter_quietly.ensures.reply
