-- All groups that depend on the instances so far are come to.
use Rattle.std.proofs.Common.{◌-◌, vec_capacity}
use Rattle.dep_groups.specs.Search.{IsMore}
use Rattle.dep_groups.specs.Shape.{entries_of}
use Rattle.dep_groups.specs.Hits.{IsNoted, IsMoreHit, IsSwept, IsSpread}
use Rattle.dep_groups.proofs.fail.hit_all.Given as goal

abbrev pub invariant-loop-done : goal.invariant-loop-done
invariant-loop-done l = record {
  noted : IsNoted l.hits;
  swept : IsSwept l.graph l.trail l.hits;
  hits : IsMoreHit (entries_of l.graph) l.initial.hits l.hits;
  more : IsMore l.initial.trail l.trail;
  spread : IsSpread l.graph l.trail l.hits l.done;
}

abbrev pub decreases-loop-done : goal.decreases-loop-done
decreases-loop-done l = vec_capacity l.hits.order - l.done
