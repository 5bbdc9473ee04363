use Rattle.session_promises.proofs.Settled.{failed_where_lost}
use Rattle.session_promises.proofs.laws.failed_where_lost.Goals as goal

pub returns : goal.returns
returns c = failed_where_lost
