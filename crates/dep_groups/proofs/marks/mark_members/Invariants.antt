-- The members so far are marked and told.
use Rattle.std.proofs.Common.{◌≡◌, ◌+◌, ◌≤◌, ◌<◌, ℕ, Some, true, length, vec_len, vec_capacity}
use Rattle.std.specs.Prelude.{slice_get}
use Rattle.orc_ids.specs.declared.ids.InstId.{InstId}
use Rattle.dep_groups.specs.Places.{place, is_set, unset}
use Rattle.dep_groups.specs.Marks.{Tells, AreOf}
use Rattle.dep_groups.proofs.marks.mark_members.Given as goal

abbrev pub invariant-loop-member : goal.invariant-loop-member
invariant-loop-member l = record {
  sizes : length l.homes ≤ length l.marks;
  room : vec_len l.told + unset l.marks ≤ vec_capacity l.told;
  capacity : vec_capacity l.told ≡ vec_capacity l.initial.told;
  tells : Tells l.initial.marks l.marks l.initial.told.items l.told.items;
  marked : (k : ℕ) (m : InstId) → k < l.member-index → slice_get l.members k ≡ Some m → place l.homes m.0 ≡ Some l.group → is_set l.marks m.0 ≡ true;
  only : AreOf l.homes l.initial.marks l.marks l.group;
}
