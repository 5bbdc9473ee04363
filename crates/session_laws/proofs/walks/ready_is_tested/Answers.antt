use Rattle.session_laws.proofs.Paths.{ready_tested}
use Rattle.session_laws.proofs.walks.ready_is_tested.Goals as goal

pub returns : goal.returns
returns c = ready_tested
