use Rattle.std.proofs.Common.{◌≡◌, ◌≤◌, ◌-◌, ℕ, vec_len, vec_capacity}
use Rattle.dep_groups.specs.Places.{is_set}
use Rattle.dep_groups.proofs.add.grow_flags.Given as goal

abbrev pub invariant-loop-flags : goal.invariant-loop-flags
invariant-loop-flags l = record {
  same : (k : ℕ) → is_set l.flags.items k ≡ is_set l.initial.flags.items k;
  few : vec_len l.flags ≤ l.count;
  room : l.count ≤ vec_capacity l.flags;
}

abbrev pub decreases-loop-flags : goal.decreases-loop-flags
decreases-loop-flags l = l.count - vec_len l.flags
