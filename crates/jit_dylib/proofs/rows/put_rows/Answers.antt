-- The row of one more offer is put.
use Rattle.std.proofs.Common.{◌≤◌, ◌+◌, arith, ◌∙◌}
use Rattle.jit_dylib.proofs.Added.{more_at, names_behind, next_within}
use Rattle.jit_dylib.proofs.rows.put_rows.Goals as goal

pub loop-at-preserved : goal.loop-at-preserved
loop-at-preserved c =
    let so_far = c.loop-at.invariant in
    let within : c.put_live-next.result ≤ c.args.first.0 + c.loop-at.at + 1 = next_within c.is_live.result c.loop-at.next _ _ c.put_live-next.ensures.next so_far.numbers in
    record {
      rows = λ name. more_at c.loop-at.at c.loop-at.next c.put_live-next.result c.args.offers.now _ c.is_live.result c.args.live.now _ _
          c.loop-at-test.true c.requires.flags c.is_live.ensures c.put_live-next.ensures.next so_far.differ c.put_live-next.ensures.rows name ∙ so_far.rows name;
      room = omega (arith, c.put_live-next.ensures.spare, so_far.room);
      numbers = omega (arith, within);
      differ = names_behind c.args.offers.now c.loop-at.at c.loop-at-test.true so_far.differ;
    }
