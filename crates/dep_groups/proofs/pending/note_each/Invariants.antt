-- The dependencies so far were looked at.
use Rattle.std.proofs.Common.{◌≡◌, ◌<◌, ℕ, Some, true, length}
use Rattle.std.specs.Prelude.{slice_get}
use Rattle.dep_groups.specs.Places.{is_set}
use Rattle.dep_groups.specs.Search.{IsTrailOf, IsRoomy, IsMore}
use Rattle.dep_groups.specs.Pending.{AreCounted, AreNoted, IsCovered}
use Rattle.dep_groups.proofs.pending.note_each.Given as goal

abbrev pub invariant-loop-k : goal.invariant-loop-k
invariant-loop-k l = record {
  trail : IsTrailOf l.graph l.trail;
  room : IsRoomy l.trail;
  more : IsMore l.initial.trail l.trail;
  places : length l.flags ≡ length l.initial.flags;
  counted : AreCounted l.flags l.count;
  noted : AreNoted l.graph l.trail l.flags;
  stays : (i : ℕ) → is_set l.initial.flags i ≡ true → is_set l.flags i ≡ true;
  covered : (k d : ℕ) → k < l.k → slice_get l.deps k ≡ Some d → IsCovered l.graph l.trail l.flags d;
}
