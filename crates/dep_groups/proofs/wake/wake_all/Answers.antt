-- What was told so far wakes nobody.
use Rattle.std.proofs.Common.{◌∙◌, length, arith}
use Rattle.dep_groups.proofs.Told.{tells_then, told_ready}
use Rattle.dep_groups.proofs.Wakes.{same_then, all_held}
use Rattle.dep_groups.proofs.wake.wake_all.Goals as goal

pub loop-told-preserved : goal.loop-told-preserved
loop-told-preserved c =
    let start = c.args.core.now in
    let old = c.loop-told.core in
    let new = c.wake.new.core in
    let i = c.loop-told.invariant in
    let e = c.wake.ensures in
    record {
      sound = e.sound;
      graph = same_then start.graph old.graph new.graph i.graph e.graph;
      capacity = e.capacity ∙ i.capacity;
      tells = tells_then start.graph.ready.items old.graph.ready.items new.graph.ready.items start.told.items old.told.items new.told.items i.tells e.tells;
      ready = record { ready = told_ready old.graph.ready.items new.graph.ready.items old.told.items new.told.items e.tells i.ready.ready };
      held = e.held;
    }

pub returns-clause-held : goal.returns-clause-held
returns-clause-held c =
    let core = c.loop-told.core in
    all_held core (length core.graph.nodes.items) c.loop-told.told (omega (arith, c.loop-told-test.false, c.len.ensures, core.told.ok.0)) c.loop-told.invariant.sound.wired.within c.loop-told.invariant.held
