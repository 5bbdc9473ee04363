-- All that the visits so far depend on was looked at.
use Rattle.std.proofs.Common.{◌≡◌, ◌<◌, ◌-◌, ℕ, length, vec_capacity}
use Rattle.dep_groups.specs.Search.{IsTrailOf, IsRoomy, IsMore}
use Rattle.dep_groups.specs.Pending.{AreCounted, AreNoted, IsCoveredFrom}
use Rattle.dep_groups.proofs.pending.note_all.Given as goal

abbrev pub invariant-loop-from : goal.invariant-loop-from
invariant-loop-from l = record {
  trail : IsTrailOf l.graph l.trail;
  room : IsRoomy l.trail;
  more : IsMore l.initial.trail l.trail;
  places : length l.flags ≡ length l.initial.flags;
  counted : AreCounted l.flags l.count;
  noted : AreNoted l.graph l.trail l.flags;
  covered : (k : ℕ) → k < l.from → IsCoveredFrom l.graph l.trail l.flags k;
}

abbrev pub decreases-loop-from : goal.decreases-loop-from
decreases-loop-from l = vec_capacity l.trail.order - l.from
