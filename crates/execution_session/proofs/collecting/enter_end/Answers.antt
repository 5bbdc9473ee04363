use Rattle.std.proofs.Common.{◌≡◌, ap, sym, subst, ◌∙◌, refl, rules, arith, slice_get, Some, None, false}
use Rattle.std.specs.Prelude.{◌≢◌, Err}
use Rattle.session_model.specs.declared.entry.Event.TheVariants as event
use Rattle.execution_session.specs.Collected.{is_open}
use Rattle.session_steps.specs.Performs.{state_of, Collects}
use Rattle.execution_session.proofs.Collected.{says_settled, has_no_open, collect_step, collects_entered, collects_stopped}
use Rattle.session_steps.proofs.Declared.{stands, stopped, can_step, did_step}
use Rattle.execution_session.proofs.collecting.enter_end.Goals as goal

pub check_places-requires : goal.check_places-requires
check_places-requires g c κs within = (within.0, (within.1, ((search rules), (refl, (c.requires.rest, (omega arith))))))

pub returns-in_err-check_places-clause-collects : goal.returns-in_err-check_places-clause-collects
returns-in_err-check_places-clause-collects g c =
    let live = c.args.live.now in
    let told : c.from_residual.result ≡ Err c.in_err-check_places.field-0.0 = search rules in
    let settled : slice_get live.parts.book.ends c.args.q.0 ≢ Some None = says_settled c.args.q (slice_get live.parts.book.ends c.args.q.0) (ap is_open (sym c.requires.end) ∙ c.requires.settled) in
    subst (Collects g.U.UnitKind.meaning g.row.JMAX live.journal.items live.journal.items c.args.s c.args.q) (sym told)
    (collects_stopped g.U.UnitKind.meaning g.row.JMAX live.journal.items live.journal.items c.args.s c.args.q c.in_err-check_places.field-0.0 (has_no_open g.U.UnitKind.meaning live.journal.items c.args.q live.parts.book.ends c.requires.rest.ends settled)
    (stopped g.U.UnitKind.meaning g.row.JMAX live.journal.items c.args.s (event.Collect c.args.q) 1 c.in_err-check_places.field-0.0 refl c.in_err-check_places.ensures.full))

pub returns-in_default-clause-collects : goal.returns-in_default-clause-collects
returns-in_default-clause-collects g c =
    let live = c.args.live.now in
    let settled : slice_get live.parts.book.ends c.args.q.0 ≢ Some None = says_settled c.args.q (slice_get live.parts.book.ends c.args.q.0) (ap is_open (sym c.requires.end) ∙ c.requires.settled) in
    (refl, has_no_open g.U.UnitKind.meaning live.journal.items c.args.q live.parts.book.ends c.requires.rest.ends settled)

pub enter_silently-requires-clause-can : goal.enter_silently-requires-clause-can
enter_silently-requires-clause-can g c =
    let live = c.args.live.now in
    let h = live.journal.items in
    let settled : is_open c.in-Ok.copy ≡ false = ap is_open (c.in-Ok.ensures.end ∙ sym c.requires.end) ∙ c.requires.settled in
    can_step g.U.UnitKind.meaning g.row.JMAX 1 live live c.args.s (event.Collect c.args.q) c.in-Ok.copy c.requires.rest refl refl c.in_ok-check_places.ensures.places
    (collect_step g.U.UnitKind.meaning (state_of g.U.UnitKind.meaning h) c.args.s.0 c.args.q live.parts c.in-Ok.copy (stands g.U.UnitKind.meaning g.row.JMAX live.parts h _ c.requires.rest) c.in-Ok.ensures.end settled)

pub returns-clause-collects : goal.returns-clause-collects
returns-clause-collects g c =
    let live = c.args.live.now in
    let h = live.journal.items in
    let settled : is_open c.in-Ok.copy ≡ false = ap is_open (c.in-Ok.ensures.end ∙ sym c.requires.end) ∙ c.requires.settled in
    let step = collect_step g.U.UnitKind.meaning (state_of g.U.UnitKind.meaning h) c.args.s.0 c.args.q live.parts c.in-Ok.copy (stands g.U.UnitKind.meaning g.row.JMAX live.parts h _ c.requires.rest) c.in-Ok.ensures.end settled in
    collects_entered g.U.UnitKind.meaning g.row.JMAX h c.enter_silently.new.live.journal.items c.args.s c.args.q c.args.reply c.requires.settled
    (did_step g.U.UnitKind.meaning g.row.JMAX 1 live live h c.enter_silently.new.live.journal.items c.args.s (event.Collect c.args.q) c.in-Ok.copy c.args.reply refl c.requires.rest refl refl c.in_ok-check_places.ensures.places step c.enter_silently.ensures.grown (c.requires.end ∙ sym c.in-Ok.ensures.end))
