use Rattle.session_laws.proofs.Keeping.{held_stays}
use Rattle.session_laws.proofs.holding.held_stays.Goals as goal

pub returns : goal.returns
returns c = held_stays
