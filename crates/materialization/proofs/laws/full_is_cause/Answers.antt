use Rattle.materialization.proofs.Stopping.{full_is_cause}
use Rattle.materialization.proofs.laws.full_is_cause.Goals as goal

pub returns : goal.returns
returns c = full_is_cause
