use Rattle.std.proofs.Common.{◌≡◌, ◌≤◌, ◌+◌, ◌-◌, ℕ, length, vec_capacity}
use Rattle.instances.specs.Sets.{is_set, unset}
use Rattle.instances.proofs.inst_set.grow.Given as goal

abbrev pub invariant-loop-flags : goal.invariant-loop-flags
invariant-loop-flags l = record {
  same : (k : ℕ) → is_set l.flags.items k ≡ is_set l.initial.flags.items k;
  more : unset l.flags.items + length l.initial.flags.items ≡ unset l.initial.flags.items + length l.flags.items;
  longer : length l.initial.flags.items ≤ length l.flags.items;
  most : (n : ℕ) → length l.initial.flags.items ≤ n → l.count ≤ n → length l.flags.items ≤ n;
  room : l.count ≤ vec_capacity l.flags;
}

abbrev pub decreases-loop-flags : goal.decreases-loop-flags
decreases-loop-flags l = l.count - length l.flags.items
