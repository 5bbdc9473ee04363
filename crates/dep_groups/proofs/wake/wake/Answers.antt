-- One group less waits for the instance.
use Rattle.std.proofs.Common.{◌∙◌, ℕ, List, Option, length, refl, sym, ap, arith}
use Rattle.orc_ids.specs.declared.ids.InstId.{InstId}
use Rattle.dep_groups.specs.Places.{place}
use Rattle.dep_groups.proofs.Told.{tells_none, tells_then}
use Rattle.dep_groups.proofs.Wakes.{same_none, same_then, held_passed, told_there}
use Rattle.dep_groups.proofs.wake.wake.Goals as goal

pub loop-group-init : goal.loop-group-init
loop-group-init c =
    let core = c.args.core.now in
    record {
      sound = c.requires.sound;
      graph = same_none core.graph;
      capacity = refl;
      tells = tells_none core.graph.ready.items core.told.items;
      ready = c.requires.ready.ready c.args.told c.index.result.now (told_there core.told.items c.args.told c.index.result.now (omega (arith, c.requires.told, core.told.ok.0)) c.index.ensures);
      held = c.requires.held;
    }

pub wake_first-requires-clause-told : goal.wake_first-requires-clause-told
wake_first-requires-clause-told c = omega (arith, c.requires.told, c.loop-group.invariant.tells.longer, c.args.core.now.told.ok.0, c.loop-group.core.told.ok.0)

pub loop-group-smaller : goal.loop-group-smaller
loop-group-smaller c = c.wake_first.ensures.fewer

pub loop-group-preserved : goal.loop-group-preserved
loop-group-preserved c =
    let start = c.args.core.now in
    let old = c.loop-group.core in
    let new = c.wake_first.new.core in
    let i = c.loop-group.invariant in
    let e = c.wake_first.ensures in
    record {
      sound = e.sound;
      graph = same_then start.graph old.graph new.graph i.graph e.graph;
      capacity = e.capacity ∙ i.capacity;
      tells = tells_then start.graph.ready.items old.graph.ready.items new.graph.ready.items start.told.items old.told.items new.told.items i.tells e.tells;
      ready = e.tells.stays c.index.result.now.0 i.ready;
      held = e.held;
    }

pub returns-clause-held : goal.returns-clause-held
returns-clause-held c =
    let start = c.args.core.now in
    let core = c.loop-group.core in
    let i = c.loop-group.invariant in
    let m : InstId = c.index.result.now in
    held_passed core (length core.graph.nodes.items) c.args.told m i.sound.queued
    (ap (λ (hs : List (Option ℕ)). place hs m.0) (sym c.deref.ensures.value) ∙ sym c.at.ensures ∙ c.in_default.is)
    (i.tells.front c.args.told m (told_there start.told.items c.args.told m (omega (arith, c.requires.told, start.told.ok.0)) c.index.ensures))
    i.held
