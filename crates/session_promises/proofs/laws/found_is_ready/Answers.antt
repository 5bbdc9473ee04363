use Rattle.session_promises.proofs.FoundReady.{found_is_ready}
use Rattle.session_promises.proofs.laws.found_is_ready.Goals as goal

pub returns : goal.returns
returns c = found_is_ready
