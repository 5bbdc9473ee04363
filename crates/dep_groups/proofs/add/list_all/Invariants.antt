use Rattle.std.proofs.Common.{◌≡◌, ◌<◌, ◌+◌, ◌⊎◌, ℕ, Some, length, Contains, vec_len, vec_capacity}
use Rattle.std.specs.Prelude.{slice_get}
use Rattle.dep_groups.specs.Places.{place}
use Rattle.dep_groups.specs.Wake.{IsListed}
use Rattle.dep_groups.specs.Add.{ListsFall}
use Rattle.dep_groups.proofs.add.list_all.Given as goal

abbrev pub invariant-loop-instance : goal.invariant-loop-instance
invariant-loop-instance l = record {
  sizes : length l.firsts ≡ length l.initial.firsts;
  falls : ListsFall l.firsts l.edges.items (l.group + 1);
  listed : (k d : ℕ) → k < l.instance-index → slice_get l.deps k ≡ Some d → IsListed l.edges.items (place l.firsts d) l.group;
  kept : (d g : ℕ) → IsListed l.initial.edges.items (place l.initial.firsts d) g → IsListed l.edges.items (place l.firsts d) g;
  only : (d g : ℕ) → IsListed l.edges.items (place l.firsts d) g → IsListed l.initial.edges.items (place l.initial.firsts d) g ⊎ (Contains l.deps d × (g ≡ l.group));
  len : vec_len l.edges ≡ vec_len l.initial.edges + l.instance-index;
  capacity : vec_capacity l.edges ≡ vec_capacity l.initial.edges;
}
