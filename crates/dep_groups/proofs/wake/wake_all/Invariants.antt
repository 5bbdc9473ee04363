-- The groups that are linked to what was told so far wait.
use Rattle.std.proofs.Common.{◌≡◌, ◌-◌, length, vec_capacity}
use Rattle.dep_groups.specs.Marks.{Tells}
use Rattle.dep_groups.specs.Core.{IsSound}
use Rattle.dep_groups.specs.Wake.{AreHeld, AreToldReady, IsSameGraph}
use Rattle.dep_groups.proofs.wake.wake_all.Given as goal

abbrev pub invariant-loop-told : goal.invariant-loop-told
invariant-loop-told l = record {
  sound : IsSound l.core;
  graph : IsSameGraph l.initial.core.graph l.core.graph;
  capacity : vec_capacity l.core.told ≡ vec_capacity l.initial.core.told;
  tells : Tells l.initial.core.graph.ready.items l.core.graph.ready.items l.initial.core.told.items l.core.told.items;
  ready : AreToldReady l.core;
  held : AreHeld l.core (length l.core.graph.nodes.items) l.told;
}

abbrev pub decreases-loop-told : goal.decreases-loop-told
decreases-loop-told l = vec_capacity l.core.told - l.told
