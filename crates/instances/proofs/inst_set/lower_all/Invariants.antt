use Rattle.std.proofs.Common.{◌≡◌, ◌&&◌, ℕ, not, take, length}
use Rattle.instances.specs.Table.{is_among}
use Rattle.instances.specs.Sets.{is_set}
use Rattle.instances.proofs.inst_set.lower_all.Given as goal

abbrev pub invariant-loop-i : goal.invariant-loop-i
invariant-loop-i l = record {
  flags : (k : ℕ) → is_set l.flags.items k ≡ (is_set l.initial.flags.items k && not (is_among (take l.i-index l.list) k));
  length : length l.flags.items ≡ length l.initial.flags.items;
}
