use Rattle.one_log.proofs.Logs.{one_log}
use Rattle.one_log.proofs.laws.one_log.Goals as goal

pub returns : goal.returns
returns c = one_log
