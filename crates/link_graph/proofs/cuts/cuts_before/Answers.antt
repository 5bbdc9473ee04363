use Rattle.std.proofs.Common.{ltb, ltb-true, rules}
use Rattle.std.proofs.lemmas.Bool.{ltb-false}
use Rattle.std.proofs.lemmas.List.Sorted.{IsPartitionPoint-from_clause, IsPartitionedBy-ltb}
use Rattle.link_graph.specs.declared.cuts.Cut.{Cut}
use Rattle.link_graph.proofs.Deletions.{in_order}
use Rattle.link_graph.proofs.cuts.cuts_before.Goals as goal

pub returns-clause-before : goal.returns-clause-before
returns-clause-before c =
    let parted = IsPartitionedBy-ltb (λ (x : Cut). x.from) _ c.args.at (in_order c.args.cuts.now 0 0 c.requires) in
    let point = IsPartitionPoint-from_clause (λ (x : Cut). ltb x.from c.args.at) _ _ c.partition_point.ensures.partitioned parted (λ a r q k. search rules) in
    λ k d low high. ltb-true _ _ (point.0 k d low high)

pub returns-clause-after : goal.returns-clause-after
returns-clause-after c =
    let parted = IsPartitionedBy-ltb (λ (x : Cut). x.from) _ c.args.at (in_order c.args.cuts.now 0 0 c.requires) in
    let point = IsPartitionPoint-from_clause (λ (x : Cut). ltb x.from c.args.at) _ _ c.partition_point.ensures.partitioned parted (λ a r q k. search rules) in
    λ k d low high. ltb-false _ _ (point.1 k d low high)
