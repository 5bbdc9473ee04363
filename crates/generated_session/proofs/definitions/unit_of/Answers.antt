use Rattle.generated_session.proofs.DefinitionLemmas.{unit_is}
use Rattle.generated_session.proofs.definitions.unit_of.Goals as goal

pub returns : goal.returns
returns c = unit_is c.args.n c.args.k c.in_ok-graph.graph c.of_graph.result c.in_ok-graph.ensures.exact c.of_graph.ensures.exact
