use Rattle.materialization.proofs.Stopping.{refused_edge_fails}
use Rattle.materialization.proofs.laws.refused_edge_fails.Goals as goal

pub returns : goal.returns
returns c = refused_edge_fails
