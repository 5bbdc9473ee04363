use Rattle.instances.proofs.Filled.{has_deps}
use Rattle.instances.proofs.groups.deps_table.Goals as goal

pub returns : goal.returns
returns c = has_deps c.args.groups.now c.args.first c.args.count c.loop-group.group-index c.in_ok-table.table.items c.loop-group.table.items c.in_ok-table.ensures.count c.in_ok-table.ensures.empty c.loop-group-test.false c.loop-group.invariant
