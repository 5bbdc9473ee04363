-- The flags of what the visits so far depend on are taken back.
use Rattle.std.proofs.Common.{◌≡◌, ◌<◌, ℕ, true, length, Contains}
use Rattle.dep_groups.specs.Places.{is_set}
use Rattle.dep_groups.specs.Shape.{deps_in}
use Rattle.dep_groups.specs.Search.{IsVisit}
use Rattle.dep_groups.proofs.pending.lower_noted.Given as goal

abbrev pub invariant-loop-k : goal.invariant-loop-k
invariant-loop-k l = record {
  places : length l.flags ≡ length l.initial.flags;
  left : (i : ℕ) → is_set l.flags i ≡ true → is_set l.initial.flags i ≡ true;
  low : (k i v : ℕ) → k < l.k → IsVisit l.trail.order.items k v → Contains (deps_in l.graph v) i → is_set l.flags i ≡ true → ⊥;
}
