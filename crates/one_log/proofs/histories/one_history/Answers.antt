use Rattle.one_log.proofs.One.{one_history}
use Rattle.one_log.proofs.histories.one_history.Goals as goal

pub returns : goal.returns
returns c = one_history
