-- All groups that depend on one instance more are come to.
use Rattle.std.proofs.Common.{◌≡◌, Some, arith}
use Rattle.std.specs.Prelude.{slice_get}
use Rattle.orc_ids.specs.declared.ids.InstId.{InstId}
use Rattle.dep_groups.specs.Shape.{entries_of}
use Rattle.dep_groups.proofs.Trails.{more_then}
use Rattle.dep_groups.proofs.Wakes.{told_there}
use Rattle.dep_groups.proofs.Spreads.{hit_then, spread_next}
use Rattle.dep_groups.proofs.fail.hit_all.Goals as goal

pub loop-done-preserved : goal.loop-done-preserved
loop-done-preserved c =
    let graph = c.args.graph.now in
    let i = c.loop-done.invariant in
    let e = c.hit_dependants.ensures in
    let m : InstId = c.index-instance.result.now in
    let here : slice_get c.loop-done.hits.order.items c.loop-done.done ≡ Some m = told_there c.loop-done.hits.order.items c.loop-done.done m (omega (arith, c.loop-done-test.true, c.len.ensures, c.loop-done.hits.order.ok.0)) c.index-instance.ensures in
    record {
      noted = e.noted;
      swept = e.swept;
      hits = hit_then (entries_of graph) c.args.hits.now c.loop-done.hits c.hit_dependants.new.hits i.hits e.hits;
      more = more_then c.args.trail.now c.loop-done.trail c.hit_dependants.new.trail i.more e.more;
      spread = spread_next graph c.loop-done.trail c.hit_dependants.new.trail c.loop-done.hits c.hit_dependants.new.hits c.loop-done.done m here e.hits.front e.more.seen e.seen i.spread;
    }
