use Rattle.graph_walks.proofs.Paths.{walks_suffice}
use Rattle.graph_walks.proofs.walks_suffice.Goals as goal

pub returns : goal.returns
returns c = walks_suffice
