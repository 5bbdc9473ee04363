use Rattle.std.proofs.Common.{◌≡◌}
use Rattle.std.specs.Prelude.{flat_map}
use Rattle.std.specs.List.{range_with_len}
use Rattle.block_groups.specs.Groups.{group_of}
use Rattle.block_groups.specs.Lists.{row}
use Rattle.block_groups.proofs.groups.collect.Given as goal

abbrev pub invariant-loop-b : goal.invariant-loop-b
invariant-loop-b l = l.groups.items ≡ flat_map (λ b. group_of (row l.members b) (row l.deps b)) (range_with_len 0 l.b)
