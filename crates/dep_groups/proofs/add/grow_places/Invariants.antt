use Rattle.std.proofs.Common.{◌≡◌, ◌≤◌, ◌-◌, ℕ, vec_len, vec_capacity}
use Rattle.dep_groups.specs.Places.{place}
use Rattle.dep_groups.proofs.add.grow_places.Given as goal

abbrev pub invariant-loop-places : goal.invariant-loop-places
invariant-loop-places l = record {
  same : (k : ℕ) → place l.places.items k ≡ place l.initial.places.items k;
  few : vec_len l.places ≤ l.count;
  room : l.count ≤ vec_capacity l.places;
}

abbrev pub decreases-loop-places : goal.decreases-loop-places
decreases-loop-places l = l.count - vec_len l.places
