use Rattle.std.proofs.Common.{◌≡◌, ap, ◌∙◌, refl, arith, rules, subst, sym, slice_get, Ok, Some, None, ◌++◌, ◌∷◌, []}
use Rattle.session_model.specs.declared.entry.Event.TheVariants as event
use Rattle.session_model.specs.declared.entry.Reply.TheVariants as reply
use Rattle.session_steps.specs.declared.live.Live.{Live}
use Rattle.session_steps.specs.Performs.{state_of, Takes}
use Rattle.session_steps.specs.Taken.{GivesUnit, BindsUnit}
use Rattle.session_steps.proofs.Declared.{stands, can_step, did_step, can_hand_out, first_of, gives_after, binds_after, take_entry, takes_none, takes_entered}
use Rattle.execution_session.proofs.session.Session.take.Goals as goal

pub next_job-requires : goal.next_job-requires
next_job-requires g c κs within = (within.0, (within.1, stands g.U.UnitKind.meaning g.row.JMAX c.self.inside.live.parts c.self.inside.live.journal.items _ c.self.invariant))

pub held-requires : goal.held-requires
held-requires g c κs within = (within.0, (within.1, stands g.U.UnitKind.meaning g.row.JMAX c.self.inside.live.parts c.self.inside.live.journal.items _ c.self.invariant))

pub check_places-requires : goal.check_places-requires
check_places-requires g c κs within = (within.0, (within.1, ((search rules), (refl, (c.self.invariant, (omega arith))))))

pub returns-in_default-clause-performs : goal.returns-in_default-clause-performs
returns-in_default-clause-performs g c =
    let seen : c.args.self.now.journal ≡ c.self.inside.live.journal.items = search rules in
    let none : slice_get (state_of g.U.UnitKind.meaning c.self.inside.live.journal.items).jobs 0 ≡ None = search rules in
    subst (λ r. Takes g.U.UnitKind.meaning g.row.JMAX c.args.self.now.journal c.args.self.now.journal c.args.s r) (sym c.without.ensures.answer)
    (subst (λ h. Takes g.U.UnitKind.meaning g.row.JMAX h h c.args.s (Ok (reply.Idle c.held.result))) (sym seen)
    (takes_none g.U.UnitKind.meaning g.row.JMAX c.self.inside.live.journal.items c.args.s c.held.result none c.held.ensures))

pub hand_out-requires : goal.hand_out-requires
hand_out-requires g c κs within =
    let first : slice_get (state_of g.U.UnitKind.meaning c.self.inside.live.journal.items).jobs 0 ≡ Some c.in-Some.job = search rules in (
      within.0,
      (
        within.1,
        (
          stands g.U.UnitKind.meaning g.row.JMAX c.self.inside.live.parts c.self.inside.live.journal.items _ c.self.invariant,
          (
            can_hand_out g.U.UnitKind.meaning g.row.JMAX c.self.inside.live.parts c.self.inside.live.journal.items _ c.self.invariant,
            first_of (state_of g.U.UnitKind.meaning c.self.inside.live.journal.items) c.in-Some.job first,
          ),
        ),
      ),
    )

pub enter_silently-requires-clause-can : goal.enter_silently-requires-clause-can
enter_silently-requires-clause-can g c = can_step g.U.UnitKind.meaning g.row.JMAX 2 c.self.inside.live c.hand_out.new.self c.args.s event.Take c.in-Ok.handed.entry c.self.invariant c.in-Ok.ensures.rest refl (c.in_default-check_places.ensures.places) c.in-Ok.ensures.step.step

pub returns-clause-performs : goal.returns-clause-performs
returns-clause-performs g c =
    let seen : c.args.self.now.journal ≡ c.self.inside.live.journal.items = search rules in
    takes_entered g.U.UnitKind.meaning g.row.JMAX c.args.self.now.journal c.enter_silently.new.live.journal.items c.args.s c.in-Ok.handed.reply
    (did_step g.U.UnitKind.meaning g.row.JMAX 2 c.self.inside.live c.hand_out.new.self c.args.self.now.journal c.enter_silently.new.live.journal.items c.args.s event.Take c.in-Ok.handed.entry c.in-Ok.handed.reply seen c.self.invariant c.in-Ok.ensures.rest refl (c.in_default-check_places.ensures.places) c.in-Ok.ensures.step.step c.enter_silently.ensures.grown c.in-Ok.ensures.same)

pub returns-clause-unit : goal.returns-clause-unit
returns-clause-unit g c =
    let grown : c.enter_silently.new.live.journal.items ≡ c.self.inside.live.journal.items ++ take_entry c.args.s c.in-Ok.handed.entry ∷ [] = c.enter_silently.ensures.grown ∙ ap (λ (l : Live g.row.U.Denot g.row.N.Denot). l.journal.items ++ take_entry c.args.s c.in-Ok.handed.entry ∷ []) c.in-Ok.ensures.rest in
    subst (λ h. GivesUnit g.U.UnitKind.meaning (state_of g.U.UnitKind.meaning h) (Ok c.in-Ok.handed.reply) (Some c.in-Ok.handed.unit)) (sym grown)
    (subst (λ r. GivesUnit g.U.UnitKind.meaning (state_of g.U.UnitKind.meaning (c.self.inside.live.journal.items ++ take_entry c.args.s c.in-Ok.handed.entry ∷ [])) (Ok r) (Some c.in-Ok.handed.unit)) (sym c.in-Ok.ensures.same)
    (gives_after g.U.UnitKind.meaning c.self.inside.live.journal.items c.args.s c.in-Ok.handed.entry c.in-Ok.handed.unit c.in-Ok.ensures.unit))

pub returns-clause-bound : goal.returns-clause-bound
returns-clause-bound g c =
    let grown : c.enter_silently.new.live.journal.items ≡ c.self.inside.live.journal.items ++ take_entry c.args.s c.in-Ok.handed.entry ∷ [] = c.enter_silently.ensures.grown ∙ ap (λ (l : Live g.row.U.Denot g.row.N.Denot). l.journal.items ++ take_entry c.args.s c.in-Ok.handed.entry ∷ []) c.in-Ok.ensures.rest in
    subst (λ h. BindsUnit (state_of g.U.UnitKind.meaning h) (Ok c.in-Ok.handed.reply)) (sym grown)
    (subst (λ r. BindsUnit (state_of g.U.UnitKind.meaning (c.self.inside.live.journal.items ++ take_entry c.args.s c.in-Ok.handed.entry ∷ [])) (Ok r)) (sym c.in-Ok.ensures.same)
    (binds_after g.U.UnitKind.meaning c.self.inside.live.journal.items c.args.s c.in-Ok.handed.entry c.in-Ok.handed.unit c.in-Ok.ensures.unit))
