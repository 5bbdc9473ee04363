use Rattle.session_laws.proofs.Paths.{hit_tested}
use Rattle.session_laws.proofs.walks.hit_is_tested.Goals as goal

pub returns : goal.returns
returns c = hit_tested
