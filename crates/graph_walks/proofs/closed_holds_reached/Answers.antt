use Rattle.graph_walks.proofs.Paths.{closed_holds_reached}
use Rattle.graph_walks.proofs.closed_holds_reached.Goals as goal

pub returns : goal.returns
returns c = closed_holds_reached
