use Rattle.session_laws.proofs.Along.{state_unique}
use Rattle.session_laws.proofs.histories.state_is_unique.Goals as goal

pub returns : goal.returns
returns c = state_unique
