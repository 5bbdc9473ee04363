-- The members of the groups so far are marked and told.
use Rattle.std.proofs.Common.{◌≡◌, ◌+◌, ◌≤◌, ◌<◌, ◌⊎◌, ℕ, Some, true, length, vec_len, vec_capacity, Contains}
use Rattle.std.specs.Prelude.{slice_get}
use Rattle.orc_ids.specs.declared.ids.InstId.{InstId}
use Rattle.dep_groups.specs.Places.{place, is_set, unset}
use Rattle.dep_groups.specs.Marks.{members_of, Tells, IsOfTrail}
use Rattle.dep_groups.proofs.marks.mark_all.Given as goal

abbrev pub invariant-loop-group : goal.invariant-loop-group
invariant-loop-group l = record {
  sizes : length l.ready ≡ length l.homes;
  room : vec_len l.told + unset l.ready ≤ vec_capacity l.told;
  capacity : vec_capacity l.told ≡ vec_capacity l.initial.told;
  tells : Tells l.initial.ready l.ready l.initial.told.items l.told.items;
  marked : (k v : ℕ) (m : InstId) → k < l.group-index → slice_get l.trail.order.items k ≡ Some v → Contains (members_of l.nodes.items v) m → place l.homes m.0 ≡ Some v → is_set l.ready m.0 ≡ true;
  only : (i : ℕ) → is_set l.ready i ≡ true → (is_set l.initial.ready i ≡ true) ⊎ IsOfTrail l.homes l.trail.order.items i;
}
