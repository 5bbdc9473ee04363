use Rattle.std.proofs.Common.{◌+◌, ap, length, arith}
use Rattle.std.proofs.lemmas.List.{length_push}
use Rattle.std.proofs.lemmas.List.Elements.{All-push}
use Rattle.rv_asm.specs.Typed.{Typed}
use Rattle.rv_asm.proofs.Objects.{each_more, are_sections}
use Rattle.rv_asm.proofs.sections.sections_of.Goals as goal

pub loop-section-preserved : goal.loop-section-preserved
loop-section-preserved c = record {
  count = omega (arith, ap length c.in_ok-push.ensures.items, length_push c.loop-section.items.items c.in_ok-numbered.field-0, c.loop-section.invariant.count);
  each = each_more c.args.known.now c.loop-section.items.items _ c.in_ok-numbered.field-0 c.loop-section.section c.loop-section.invariant.count c.in_ok-push.ensures.items c.loop-section.invariant.each c.in_ok-numbered.ensures.exact;
  typed = rw c.in_ok-push.ensures.items (All-push (Typed (1 + length c.args.order.now)) c.loop-section.items.items c.in_ok-numbered.field-0 c.loop-section.invariant.typed c.in_ok-numbered.ensures.typed);
}

pub returns-clause-exact : goal.returns-clause-exact
returns-clause-exact c =
    are_sections c.args.known.now c.loop-section.items.items c.from_vec.result c.loop-section.section c.from_vec.ensures c.loop-section.invariant.count
    (rw (← c.known.view_is) (omega (arith, c.loop-section-test.false, c.loop-section.auto.section-end, c.len-section-end.ensures.made)))
    c.loop-section.invariant.each

pub returns-clause-typed : goal.returns-clause-typed
returns-clause-typed c = rw c.from_vec.ensures c.loop-section.invariant.typed
