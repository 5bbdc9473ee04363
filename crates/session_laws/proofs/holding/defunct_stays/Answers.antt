use Rattle.session_laws.proofs.Rising.{defunct_stays}
use Rattle.session_laws.proofs.holding.defunct_stays.Goals as goal

pub returns : goal.returns
returns c = defunct_stays
