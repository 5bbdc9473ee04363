use Rattle.std.proofs.Common.{ap, sym, subst, ◌∙◌, Some}
use Rattle.session_replies.specs.Chains.{target_of, IsNext}
use Rattle.session_replies.proofs.Walking.{looked_up, query_matched}
use Rattle.session_replies.proofs.chains.next_instance.Goals as goal

pub returns : goal.returns
returns g c = λ m l.
    let p = c.args.parts.now in
    let y = c.in_ok-unit.unit.now in
    subst (IsNext m c.args.i.0) (sym (c.target.ensures ∙ ap target_of c.as_slice.ensures))
    (query_matched g.U.UnitKind.meaning p m c.args.i y c.in_ok-awaited.field-0 c.in_ok-query.query.now c.in_ok-awaited.ensures.lawful l
    (looked_up p c.args.i.0 c.rows.result.now (Some y) c.in_ok-unit.ensures c.rows.ensures) c.in_ok-awaited.ensures.query c.in_ok-query.ensures)
