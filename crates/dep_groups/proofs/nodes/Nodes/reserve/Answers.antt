use Rattle.std.proofs.Common.{◌∙◌, ap}
use Rattle.dep_groups.specs.Nodes.{NodeList}
use Rattle.dep_groups.proofs.Cuts.{flat_same, nodes_same}
use Rattle.dep_groups.proofs.nodes.Nodes.reserve.Goals as goal

pub invariant_of-self : goal.invariant_of-self
invariant_of-self c =
    let e = c.reserve_in.ensures in
    flat_same _ _ _ _ _ _ e.members e.deps e.ends c.self.invariant

pub returns-clause-items : goal.returns-clause-items
returns-clause-items c =
    let e = c.reserve_in.ensures in
    nodes_same _ _ _ _ _ _ e.members e.deps e.ends ∙ ap (λ (w : NodeList). w.items) c.self.view_is
