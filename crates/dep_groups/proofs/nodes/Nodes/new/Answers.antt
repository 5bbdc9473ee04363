use Rattle.dep_groups.proofs.Cuts.{flat_none}
use Rattle.dep_groups.proofs.nodes.Nodes.new.Goals as goal

pub invariant_of-result : goal.invariant_of-result
invariant_of-result c = flat_none _ _ _ c.new.ensures.items c.new-2.ensures.items c.new-3.ensures.items
