use Rattle.session_promises.proofs.FoundStanding.{found_stays_ready}
use Rattle.session_promises.proofs.laws.found_stays_ready.Goals as goal

pub returns : goal.returns
returns c = found_stays_ready
