use Rattle.std.proofs.Common.{subst}
use Rattle.session_model.specs.Meaning.{IsLawful}
use Rattle.link_model.specs.declared.graph.LinkGraph.{LinkGraph}
use Rattle.session_units.specs.Meaning.{graph_meaning}
use Rattle.session_units.proofs.Lawful.{lawful}
use Rattle.session_units.proofs.graph_unit.GraphUnitUnitKind.known.Goals as goal

pub returns : goal.returns
returns c = subst (λ (g : LinkGraph). IsLawful (graph_meaning c.args.self.now.name g)) c.deref.ensures (lawful c.args.self.now.name c.deref.result.now c.known.ensures.sound c.known.ensures.sized c.known.ensures.offers)
