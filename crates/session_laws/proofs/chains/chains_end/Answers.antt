use Rattle.session_laws.proofs.Following.{chains_end}
use Rattle.session_laws.proofs.chains.chains_end.Goals as goal

pub returns : goal.returns
returns c = chains_end
