use Rattle.session_laws.proofs.Readying.{ready_stays_ready}
use Rattle.session_laws.proofs.soundness.ready_stays_ready.Goals as goal

pub returns : goal.returns
returns c = ready_stays_ready
