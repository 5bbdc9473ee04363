use Rattle.session_laws.proofs.Keeping.{gone_stays_held}
use Rattle.session_laws.proofs.holding.gone_stays_held.Goals as goal

pub returns : goal.returns
returns c = gone_stays_held
