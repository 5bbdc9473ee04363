use Rattle.session_laws.proofs.Failing.{fail_fails_hits}
use Rattle.session_laws.proofs.failures.fail_fails_hits.Goals as goal

pub returns : goal.returns
returns c = fail_fails_hits
