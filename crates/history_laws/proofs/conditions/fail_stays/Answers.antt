use Rattle.history_laws.proofs.Calling.{fail_stays}
use Rattle.history_laws.proofs.conditions.fail_stays.Goals as goal

pub returns : goal.returns
returns c = fail_stays
