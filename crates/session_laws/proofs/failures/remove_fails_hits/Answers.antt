use Rattle.session_laws.proofs.Failing.{remove_fails_hits}
use Rattle.session_laws.proofs.failures.remove_fails_hits.Goals as goal

pub returns : goal.returns
returns c = remove_fails_hits
