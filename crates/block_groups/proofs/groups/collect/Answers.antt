use Rattle.std.proofs.Common.{List, ◌++◌, ap, ◌∙◌}
use Rattle.orc_ids.specs.declared.ids.InstId.{InstId}
use Rattle.block_groups.specs.Groups.{group_of}
use Rattle.block_groups.specs.Lists.{row}
use Rattle.block_groups.proofs.Groupings.{collected}
use Rattle.block_groups.proofs.groups.collect.Goals as goal

pub loop-b-preserved : goal.loop-b-preserved
loop-b-preserved c =
    collected c.args.members.now c.args.deps.now c.loop-b.b c.loop-b.groups.items c.add_group.new.groups.items c.loop-b.invariant
    (c.in_ok-add_group.ensures
    ∙ ap (λ (is : List InstId). c.loop-b.groups.items ++ group_of is c.row-in-loop-b.result.now) c.row.ensures
    ∙ ap (λ (is : List InstId). c.loop-b.groups.items ++ group_of (row c.args.members.now c.loop-b.b) is) c.row-in-loop-b.ensures)
