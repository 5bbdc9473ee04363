use Rattle.graph_walks.proofs.Paths.{reach_is_transitive}
use Rattle.graph_walks.proofs.reach_is_transitive.Goals as goal

pub returns : goal.returns
returns c = reach_is_transitive
