-- The roots so far are hit.
use Rattle.std.proofs.Common.{◌≡◌, ◌<◌, ◌⊎◌, ℕ, Some, true, length, Contains, vec_capacity}
use Rattle.std.specs.Prelude.{slice_get}
use Rattle.orc_ids.specs.declared.ids.InstId.{InstId}
use Rattle.dep_groups.specs.Places.{is_set}
use Rattle.dep_groups.specs.Hits.{IsNoted}
use Rattle.dep_groups.proofs.hits.hit_roots.Given as goal

abbrev pub invariant-loop-root : goal.invariant-loop-root
invariant-loop-root l = record {
  places : length l.hits.flags.items ≡ length l.initial.hits.flags.items;
  capacity : vec_capacity l.hits.order ≡ vec_capacity l.initial.hits.order;
  noted : IsNoted l.hits;
  hit : (k : ℕ) (m : InstId) → k < l.root-index → slice_get l.roots k ≡ Some m → is_set l.hits.flags.items m.0 ≡ true;
  only : (i : ℕ) → is_set l.hits.flags.items i ≡ true → (is_set l.initial.hits.flags.items i ≡ true) ⊎ Contains l.roots (record { 0 = i });
}
