-- The search goes on, and comes to one more group each time.
use Rattle.std.proofs.Common.{◌-◌, ◌<◌, vec_len, vec_capacity}
use Rattle.dep_groups.specs.Search.{IsTrailOf, IsRoomy, IsMore}
use Rattle.dep_groups.proofs.trail.follow.Given as goal

abbrev pub invariant-loop-to : goal.invariant-loop-to
invariant-loop-to l = record {
  trail : IsTrailOf l.graph l.trail;
  room : IsRoomy l.trail;
  more : IsMore l.initial.trail l.trail;
  some : 0 < vec_len l.trail.order;
}

abbrev pub decreases-loop-to : goal.decreases-loop-to
decreases-loop-to l = vec_capacity l.trail.order - vec_len l.trail.order
