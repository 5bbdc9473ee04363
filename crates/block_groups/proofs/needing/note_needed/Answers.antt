use Rattle.std.proofs.Common.{◌<◌, length, get_or, refl, ◌∙◌, arith}
use Rattle.block_groups.proofs.Needs.{deps_next, deps_past}
use Rattle.block_groups.proofs.needing.note_needed.Goals.{in-Some+in_ok-seek+in_ok-hand_out, in_default}
use Rattle.block_groups.proofs.needing.note_needed.Goals as goal

pub loop-k-preserved : goal.loop-k-preserved
loop-k-preserved c =
    let k = c.loop-k.k in
    let q : k < length c.args.bound.now = omega (arith, c.loop-k-test.true, c.requires.bound) in
    elim c.match-bound-k.branch [
      | in-Some+in_ok-seek+in_ok-hand_out w ↦ rw (w.lists-is, w.search-is) (record {
        clear = w.in_ok-hand_out.ensures.clear;
        whole = w.in_ok-hand_out.ensures.whole ∙ w.in_ok-seek.ensures.whole;
        deps = deps_next c.args.g.now c.args.live.now c.args.externals.now c.args.bound.now k (get_or c.args.externals.now k 0) w.in-Some.instance w.seek.new.search c.loop-k.lists w.hand_out.new.lists
            c.loop-k-test.true q refl w.in-Some.is w.in_ok-seek.ensures.needing w.in_ok-hand_out.ensures.handed c.loop-k.invariant.deps;
      })
      | in_default w ↦ rw (w.lists-is, w.search-is) (record {
        clear = c.loop-k.invariant.clear;
        whole = c.loop-k.invariant.whole;
        deps = deps_past c.args.g.now c.args.live.now c.args.externals.now c.args.bound.now k c.loop-k.lists c.loop-k-test.true q w.in_default.is c.loop-k.invariant.deps;
      })
    ]
