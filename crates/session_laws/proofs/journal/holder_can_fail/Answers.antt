use Rattle.session_laws.proofs.Placing.{holder_can_fail}
use Rattle.session_laws.proofs.journal.holder_can_fail.Goals as goal

pub returns : goal.returns
returns c = holder_can_fail
