use Rattle.run_laws.proofs.Short.{run_is_short}
use Rattle.run_laws.proofs.laws.run_is_short.Goals as goal

pub returns : goal.returns
returns c = run_is_short
