use Rattle.session_laws.proofs.Paths.{reach_transitive}
use Rattle.session_laws.proofs.walks.reach_is_transitive.Goals as goal

pub returns : goal.returns
returns c = reach_transitive
