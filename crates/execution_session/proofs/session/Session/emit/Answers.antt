use Rattle.std.proofs.Common.{◌≡◌, refl, sym, subst, arith, rules}
use Rattle.session_model.specs.State.{plain_history}
use Rattle.session_model.specs.declared.entry.Event.TheVariants as event
use Rattle.closure_laws.proofs.Declared.{units_fit}
use Rattle.session_steps.specs.Allowed.{MayEmit}
use Rattle.session_steps.specs.Performs.{state_of}
use Rattle.session_steps.specs.Steps.{IsTellingStep}
use Rattle.execution_session.proofs.Entries.{did_tell}
use Rattle.session_steps.proofs.Declared.{stands, can_step}
use Rattle.execution_session.proofs.session.Session.emit.Goals as goal

pub check_places-requires : goal.check_places-requires
check_places-requires g c κs within = (within.0, (within.1, ((search rules), (refl, (c.self.invariant, (omega arith))))))

pub emit_unit-requires : goal.emit_unit-requires
emit_unit-requires g c κs within =
    let seen : c.args.self.now.journal ≡ c.self.inside.live.journal.items = search rules in
    let same : c.args.groups ≡ c.as_slice.result.now = search rules in (
      within.0,
      (
        within.1,
        (
          stands g.U.UnitKind.meaning g.row.JMAX c.self.inside.live.parts c.self.inside.live.journal.items _ c.self.invariant,
          (
            units_fit g.row.JMAX (plain_history g.U.UnitKind.meaning c.self.inside.live.journal.items) c.self.invariant.legal c.args.u.0,
            subst (λ gs. MayEmit (state_of g.U.UnitKind.meaning c.self.inside.live.journal.items) c.args.s.0 c.args.u gs c.args.bytes) same
                (subst (λ h. MayEmit (state_of g.U.UnitKind.meaning h) c.args.s.0 c.args.u c.args.groups c.args.bytes) seen c.requires.finish),
          ),
        ),
      ),
    )

pub enter_telling-requires-clause-can : goal.enter_telling-requires-clause-can
enter_telling-requires-clause-can g c =
    let same : c.args.groups ≡ c.as_slice.result.now = search rules in
    let step = subst (λ gs. IsTellingStep g.U.UnitKind.meaning (state_of g.U.UnitKind.meaning c.self.inside.live.journal.items) c.args.s.0 (event.Emit c.args.u gs) c.in-Ok.reply c.self.inside.live.parts c.emit_unit.new.self.parts) (sym same) c.in-Ok.ensures.step in
    can_step g.U.UnitKind.meaning g.row.JMAX 1 c.self.inside.live c.emit_unit.new.self c.args.s (event.Emit c.args.u c.args.groups) c.in-Ok.reply c.self.invariant c.in-Ok.ensures.rest refl c.in_default.ensures.places step.step

pub returns-clause-performs : goal.returns-clause-performs
returns-clause-performs g c =
    let seen : c.args.self.now.journal ≡ c.self.inside.live.journal.items = search rules in
    let same : c.args.groups ≡ c.as_slice.result.now = search rules in
    let step = subst (λ gs. IsTellingStep g.U.UnitKind.meaning (state_of g.U.UnitKind.meaning c.self.inside.live.journal.items) c.args.s.0 (event.Emit c.args.u gs) c.in-Ok.reply c.self.inside.live.parts c.emit_unit.new.self.parts) (sym same) c.in-Ok.ensures.step in
    did_tell g.U.UnitKind.meaning g.row.JMAX 1 c.self.inside.live c.emit_unit.new.self c.args.self.now.journal c.enter_telling.new.live.journal.items c.args.s (event.Emit c.args.u c.args.groups) c.in-Ok.reply c.enter_telling.result.answer seen c.self.invariant c.in-Ok.ensures.rest refl c.in_default.ensures.places step.step c.enter_telling.ensures.grown c.enter_telling.ensures.answer
