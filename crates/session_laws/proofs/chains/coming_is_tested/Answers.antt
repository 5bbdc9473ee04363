use Rattle.session_laws.proofs.Following.{coming_tested}
use Rattle.session_laws.proofs.chains.coming_is_tested.Goals as goal

pub returns : goal.returns
returns c = coming_tested
