use Rattle.session_laws.proofs.Paths.{closed_holds}
use Rattle.session_laws.proofs.walks.closed_holds_reached.Goals as goal

pub returns : goal.returns
returns c = closed_holds
