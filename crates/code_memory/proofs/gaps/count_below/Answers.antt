-- The ends rise, so that those below the address come first.
use Rattle.std.proofs.Common.{rules, arith}
use Rattle.std.proofs.lemmas.List.Sorted.{IsPartitionPoint-from_clause, IsPartitionedBy-ltb}
use Rattle.code_memory.proofs.Counted.{counted_by, ends_below}
use Rattle.code_memory.proofs.gaps.count_below.Goals as goal

pub returns-clause-count : goal.returns-clause-count
returns-clause-count c =
    counted_by c.args.at c.args.gaps.now.items c.partition_point.result (omega (arith, c.partition_point.ensures.bound, c.args.gaps.now.ok.0))
    (IsPartitionPoint-from_clause (ends_below c.args.at) c.args.gaps.now.items c.partition_point.result c.partition_point.ensures.partitioned
    (IsPartitionedBy-ltb (λ g. g.end) c.args.gaps.now.items c.args.at c.requires) (λ a r f' called. search rules))
