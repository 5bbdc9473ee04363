use Rattle.std.proofs.Common.{◌≡◌, length, subst, arith}
use Rattle.dep_groups.specs.Nodes.{NodeList, origin}
use Rattle.dep_groups.proofs.Cuts.{count}
use Rattle.dep_groups.proofs.nodes.Nodes.len.Goals as goal

pub returns : goal.returns
returns c =
    let s = c.self.inside in
    subst (λ (w : NodeList). c.len.result ≡ length w.items) c.self.view_is (omega (arith, c.len.ensures, s.ends.ok.0, count s.members.items s.deps.items origin s.ends.items))
