use Rattle.generated_session.proofs.Short.{is_short}
use Rattle.generated_session.proofs.laws.generated_run_is_short.Goals as goal

pub returns : goal.returns
returns c = is_short
