-- The instance is ready, and its queue gets shorter.
use Rattle.std.proofs.Common.{◌≡◌, true, length, vec_capacity}
use Rattle.dep_groups.specs.Shape.{ready_in}
use Rattle.dep_groups.specs.Links.{waiting}
use Rattle.dep_groups.specs.Marks.{Tells}
use Rattle.dep_groups.specs.Core.{IsSound}
use Rattle.dep_groups.specs.Wake.{AreHeld, IsSameGraph}
use Rattle.dep_groups.proofs.wake.wake.Given as goal

abbrev pub invariant-loop-group : goal.invariant-loop-group
invariant-loop-group l = record {
  sound : IsSound l.core;
  graph : IsSameGraph l.initial.core.graph l.core.graph;
  capacity : vec_capacity l.core.told ≡ vec_capacity l.initial.core.told;
  tells : Tells l.initial.core.graph.ready.items l.core.graph.ready.items l.initial.core.told.items l.core.told.items;
  ready : ready_in l.core.graph l.instance ≡ true;
  held : AreHeld l.core (length l.core.graph.nodes.items) l.told;
}

abbrev pub decreases-loop-group : goal.decreases-loop-group
decreases-loop-group l = waiting l.instance l.core.links.items
