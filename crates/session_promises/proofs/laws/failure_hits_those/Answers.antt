use Rattle.session_promises.proofs.Failures.{failure_hits_those}
use Rattle.session_promises.proofs.laws.failure_hits_those.Goals as goal

pub returns : goal.returns
returns c = failure_hits_those
