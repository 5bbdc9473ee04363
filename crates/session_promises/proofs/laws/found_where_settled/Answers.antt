use Rattle.session_promises.proofs.Settled.{found_where_settled}
use Rattle.session_promises.proofs.laws.found_where_settled.Goals as goal

pub returns : goal.returns
returns c = found_where_settled
