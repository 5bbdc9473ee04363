-- The groups of the mentions so far are come to.
use Rattle.std.proofs.Common.{◌≡◌, ◌<◌, ◌⊎◌, ℕ, Some, true, length}
use Rattle.dep_groups.specs.Places.{place, is_set}
use Rattle.dep_groups.specs.Search.{IsMore}
use Rattle.dep_groups.specs.Wake.{IsListed}
use Rattle.dep_groups.specs.Shape.{entries_of}
use Rattle.dep_groups.specs.Hits.{IsNoted, IsMoreHit, IsSwept}
use Rattle.dep_groups.proofs.Wakes.{left}
use Rattle.dep_groups.proofs.fail.hit_dependants.Given as goal

abbrev pub invariant-loop-next : goal.invariant-loop-next
invariant-loop-next l = record {
  noted : IsNoted l.hits;
  swept : IsSwept l.graph l.trail l.hits;
  hits : IsMoreHit (entries_of l.graph) l.initial.hits l.hits;
  more : IsMore l.initial.trail l.trail;
  within : (k : ℕ) → l.next ≡ Some k → k < length l.graph.edges.items;
  rest : (g : ℕ) → IsListed l.graph.edges.items l.next g → IsListed l.graph.edges.items (place l.graph.firsts.items l.instance) g;
  seen : (g : ℕ) → IsListed l.graph.edges.items (place l.graph.firsts.items l.instance) g → (is_set l.trail.seen.items g ≡ true) ⊎ IsListed l.graph.edges.items l.next g;
}

abbrev pub decreases-loop-next : goal.decreases-loop-next
decreases-loop-next l = left l.next
