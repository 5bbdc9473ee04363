-- The groups from a place on are added, and the ones before are left.
use Rattle.std.proofs.Common.{◌≤◌, length}
use Rattle.dep_groups.specs.Core.{IsSound}
use Rattle.dep_groups.specs.Wake.{IsIndexed, AreHeld, AreUnlinked}
use Rattle.dep_groups.specs.Adding.{AreAdded}
use Rattle.dep_groups.proofs.Addings.{RoomFor}
use Rattle.dep_groups.proofs.add.add_all.Given as goal

abbrev pub invariant-loop-left : goal.invariant-loop-left
invariant-loop-left l = record {
  within : l.left ≤ length l.groups;
  room : RoomFor l.core l.groups l.left;
  sound : IsSound l.core;
  indexed : IsIndexed l.core.graph;
  held : AreHeld l.core (length l.initial.core.graph.nodes.items) 0;
  unlinked : AreUnlinked l.core.links.items (length l.initial.core.graph.nodes.items);
  added : AreAdded l.initial.core l.core l.groups l.left;
}

abbrev pub decreases-loop-left : goal.decreases-loop-left
decreases-loop-left l = l.left
