use Rattle.std.proofs.Common.{refl, ◌∙◌, arith}
use Rattle.rv_asm.proofs.Orders.{entries_more, entries_all}
use Rattle.rv_asm.proofs.order.note_entries.Goals as goal

pub loop-i-init : goal.loop-i-init
loop-i-init c = record { len = refl; placed = λ n. c.requires.fresh n }

pub note_entry-requires : goal.note_entry-requires
note_entry-requires c = omega (arith, c.requires.inside c.loop-i.i 0 c.loop-i-test.true, c.loop-i.invariant.len)

pub loop-i-preserved : goal.loop-i-preserved
loop-i-preserved c = record {
  len = c.note_entry.ensures.len ∙ c.loop-i.invariant.len;
  placed = entries_more c.args.numbers.now c.loop-i.i _ _ _ c.loop-i-test.true c.loop-i.invariant.placed c.note_entry.ensures.noted;
}

pub returns : goal.returns
returns c = entries_all c.args.numbers.now c.loop-i.i _ c.loop-i-test.false c.loop-i.invariant.placed
