use Rattle.session_laws.proofs.Along.{empty_legal}
use Rattle.session_laws.proofs.histories.empty_is_legal.Goals as goal

pub returns : goal.returns
returns c = empty_legal
