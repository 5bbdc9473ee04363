use Rattle.session_laws.proofs.Paths.{row_walks}
use Rattle.session_laws.proofs.walks.walks_suffice.Goals as goal

pub returns : goal.returns
returns c = row_walks
