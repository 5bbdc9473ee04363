use Rattle.std.proofs.Common.{◌∙◌, ◌+◌, ◌++◌, ◌∷◌, [], length, ap, sym, subst}
use Rattle.dep_groups.specs.Nodes.{NodeList, node_of, IsEnough}
use Rattle.dep_groups.proofs.nodes.Nodes.push.Goals as goal

pub push_to-requires-clause-room : goal.push_to-requires-clause-room
push_to-requires-clause-room c = subst (λ (w : NodeList). IsEnough w.room 1 (length c.args.group.now.members) (length c.args.group.now.deps)) (sym c.self.view_is) c.requires

pub returns-clause-number : goal.returns-clause-number
returns-clause-number c = c.push_to.ensures.number ∙ ap (λ (w : NodeList). length w.items) c.self.view_is

pub returns-clause-items : goal.returns-clause-items
returns-clause-items c = c.push_to.ensures.items ∙ ap (λ (w : NodeList). w.items ++ node_of c.args.group.now ∷ []) c.self.view_is

pub returns-clause-room : goal.returns-clause-room
returns-clause-room c = λ g m d r. c.push_to.ensures.room g m d (subst (λ (w : NodeList). IsEnough w.room (g + 1) (length c.args.group.now.members + m) (length c.args.group.now.deps + d)) (sym c.self.view_is) r)
