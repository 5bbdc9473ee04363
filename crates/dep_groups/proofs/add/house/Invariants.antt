use Rattle.std.proofs.Common.{◌≡◌, ◌<◌, ◌⊎◌, ℕ, Some, length, Contains}
use Rattle.std.specs.Prelude.{slice_get}
use Rattle.orc_ids.specs.declared.ids.InstId.{InstId}
use Rattle.dep_groups.specs.Places.{place}
use Rattle.dep_groups.proofs.add.house.Given as goal

abbrev pub invariant-loop-member : goal.invariant-loop-member
invariant-loop-member l = record {
  sizes : length l.homes ≡ length l.initial.homes;
  members : (k : ℕ) (m : InstId) → k < l.member-index → slice_get l.members k ≡ Some m → place l.homes m.0 ≡ Some l.group;
  others : (i : ℕ) → (place l.homes i ≡ place l.initial.homes i) ⊎ (Contains l.members (record { 0 = i }) × (place l.homes i ≡ Some l.group));
}
