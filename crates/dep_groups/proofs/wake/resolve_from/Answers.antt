-- One group more is ready, or waits.
use Rattle.std.proofs.Common.{◌∙◌, ◌+◌, arith}
use Rattle.dep_groups.proofs.Told.{tells_then}
use Rattle.dep_groups.proofs.Wakes.{same_then, held_next, further_one, IsResolved}
use Rattle.dep_groups.proofs.wake.resolve_from.Goals as goal

pub loop-group-preserved : goal.loop-group-preserved
loop-group-preserved c =
    let start = c.args.core.now in
    let old = c.loop-group.core in
    let new = c.resolve.new.core in
    let i = c.loop-group.invariant in
    let e = c.resolve.ensures in
    let r : IsResolved old new c.loop-group.group = record { graph = e.graph; tells = e.tells; settled = e.settled; only = e.only } in
    record {
      sound = e.sound;
      graph = same_then start.graph old.graph new.graph i.graph e.graph;
      capacity = e.capacity ∙ i.capacity;
      tells = tells_then start.graph.ready.items old.graph.ready.items new.graph.ready.items start.told.items old.told.items new.told.items i.tells e.tells;
      unlinked = record { unlinked = λ g past. e.only.kept g (λ same. absurd (omega (arith, past, same))) ∙ i.unlinked.unlinked g (omega (arith, past)) };
      held = held_next old new c.loop-group.group r c.loop-group.group (c.loop-group.group + 1) 0 (omega arith) (further_one c.loop-group.group) i.held;
    }
