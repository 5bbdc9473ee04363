-- The dependencies so far were looked at.
use Rattle.std.proofs.Common.{◌≡◌, ◌<◌, ◌≤◌, ℕ, Some}
use Rattle.std.specs.Prelude.{slice_get}
use Rattle.dep_groups.specs.Search.{IsTrailOf, IsRoomy, IsMore, IsLooked}
use Rattle.dep_groups.proofs.trail.scan.Given as goal

abbrev pub invariant-loop-k : goal.invariant-loop-k
invariant-loop-k l = record {
  trail : IsTrailOf l.graph l.trail;
  room : IsRoomy l.trail;
  more : IsMore l.initial.trail l.trail;
  looked : (k d : ℕ) → l.start ≤ k → k < l.k → slice_get l.deps k ≡ Some d → IsLooked l.graph l.trail d;
}
