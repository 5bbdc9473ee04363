use Rattle.session_laws.proofs.Along.{one_more_legal}
use Rattle.session_laws.proofs.histories.one_more_is_legal.Goals as goal

pub returns : goal.returns
returns c = one_more_legal
