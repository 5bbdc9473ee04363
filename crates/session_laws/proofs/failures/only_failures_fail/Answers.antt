use Rattle.session_laws.proofs.Unfailing.{only_failures_fail}
use Rattle.session_laws.proofs.failures.only_failures_fail.Goals as goal

pub returns : goal.returns
returns c = only_failures_fail
