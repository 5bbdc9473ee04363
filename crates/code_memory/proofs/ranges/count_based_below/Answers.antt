-- The bases rise, so that those below the address come first.
use Rattle.std.proofs.Common.{rules}
use Rattle.std.proofs.lemmas.List.Sorted.{IsPartitionPoint-from_clause, IsPartitionedBy-ltb}
use Rattle.code_memory.proofs.Changed.{taken_below, is_below}
use Rattle.code_memory.proofs.ranges.count_based_below.Goals as goal

pub returns : goal.returns
returns c =
    taken_below c.args.at c.args.segments.now c.partition_point.result c.partition_point.ensures.bound
    (IsPartitionPoint-from_clause (is_below c.args.at) c.args.segments.now c.partition_point.result c.partition_point.ensures.partitioned
    (IsPartitionedBy-ltb (λ s. s.base) c.args.segments.now c.args.at c.requires) (λ a r f' called. search rules))
