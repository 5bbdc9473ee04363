-- The groups so far are ready, or wait.
use Rattle.std.proofs.Common.{◌≡◌, vec_capacity}
use Rattle.dep_groups.specs.Marks.{Tells}
use Rattle.dep_groups.specs.Core.{IsSound}
use Rattle.dep_groups.specs.Wake.{AreHeld, AreUnlinked, IsSameGraph}
use Rattle.dep_groups.proofs.wake.resolve_from.Given as goal

abbrev pub invariant-loop-group : goal.invariant-loop-group
invariant-loop-group l = record {
  sound : IsSound l.core;
  graph : IsSameGraph l.initial.core.graph l.core.graph;
  capacity : vec_capacity l.core.told ≡ vec_capacity l.initial.core.told;
  tells : Tells l.initial.core.graph.ready.items l.core.graph.ready.items l.initial.core.told.items l.core.told.items;
  unlinked : AreUnlinked l.core.links.items l.group;
  held : AreHeld l.core l.group 0;
}
