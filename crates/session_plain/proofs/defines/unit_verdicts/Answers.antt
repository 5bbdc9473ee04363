use Rattle.std.proofs.Common.{arith, ap, sym, ◌∙◌, Some}
use Rattle.std.specs.Prelude.{option_map}
use Rattle.session_model.specs.Change.{verdict}
use Rattle.session_plain.proofs.ListLemmas.{mapped_more}
use Rattle.session_plain.proofs.defines.unit_verdicts.Goals as goal

pub loop-k-preserved : goal.loop-k-preserved
loop-k-preserved g c =
    let f = verdict c.args.rows.now c.args.d.0 in
    rw c.in_ok-push.ensures.items
    (mapped_more (verdict c.args.rows.now c.args.d.0) (g.U.UnitKind.meaning c.args.unit.now).offers c.loop-k.k c.judged.result c.loop-k.found.items
    _ (omega (arith, c.loop-k-test.true, c.count-k-end.ensures)) (ap Some c.judged.ensures ∙ sym (ap (option_map (verdict c.args.rows.now c.args.d.0)) c.offer.ensures)) c.loop-k.invariant)
