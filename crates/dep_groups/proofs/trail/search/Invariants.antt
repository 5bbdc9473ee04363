-- What the visits so far depend on was looked at.
use Rattle.std.proofs.Common.{◌≡◌, ◌-◌, length, vec_capacity}
use Rattle.dep_groups.specs.Search.{IsTrailOf, IsRoomy, IsMore, ArePassed, IsExhausted}
use Rattle.dep_groups.proofs.trail.search.Given as goal

abbrev pub invariant-loop-from : goal.invariant-loop-from
invariant-loop-from l = record {
  trail : IsTrailOf l.graph l.trail;
  room : IsRoomy l.trail;
  more : IsMore l.initial.trail l.trail;
  cursors : ArePassed l.graph l.cursors;
  sizes : length l.cursors ≡ length l.trail.seen.items;
  looked : IsExhausted l.graph l.trail l.from;
}

abbrev pub decreases-loop-from : goal.decreases-loop-from
decreases-loop-from l = vec_capacity l.trail.order - l.from
