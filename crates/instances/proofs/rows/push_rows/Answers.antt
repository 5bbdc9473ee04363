use Rattle.std.proofs.Common.{◌≡◌, ◌+◌, ◌<◌, ◌++◌, drop, length, slice_get, false, Some, unwrap_or, ap, sym, ◌∙◌, arith}
use Rattle.std.proofs.lemmas.Option.{slice_get-get_or}
use Rattle.instances.specs.Table.{fresh_rows}
use Rattle.instances.proofs.Fresh.{fresh_more, one_longer}
use Rattle.instances.proofs.rows.push_rows.Goals as goal

pub loop-k-preserved : goal.loop-k-preserved
loop-k-preserved c =
    let k = c.loop-k.k in
    let offers = c.args.offers.now in
    let live = c.args.live.now in
    let below : k < length live = omega (arith, c.loop-k-test.true, c.requires.flags) in
    let flag = slice_get-get_or live k false below in
    let told : slice_get live k ≡ Some c.is_live.result = flag ∙ ap Some (sym (c.is_live.ensures ∙ ap (λ o. unwrap_or o false) flag)) in
    record {
      rest = ap (λ xs. xs ++ fresh_rows c.args.d.0 c.args.u.0 (k + 1) (drop (k + 1) offers) (drop (k + 1) live)) c.push_fresh.ensures.rows
          ∙ fresh_more c.args.d.0 c.args.u.0 k offers live _ c.is_live.result c.loop-k.rows.items (slice_get-get_or offers k _ c.loop-k-test.true) told ∙ c.loop-k.invariant.rest;
      room =
          let longer = one_longer c.args.d.0 c.args.u.0 k _ c.is_live.result c.loop-k.rows.items c.push_fresh.new.rows.items c.push_fresh.ensures.rows in
          omega (arith, longer, c.loop-k.invariant.room, c.push_fresh.ensures.capacity);
      capacity = c.push_fresh.ensures.capacity ∙ c.loop-k.invariant.capacity;
    }
