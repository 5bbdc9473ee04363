use Rattle.session_laws.proofs.Placing.{full_stays}
use Rattle.session_laws.proofs.journal.full_stays.Goals as goal

pub returns : goal.returns
returns c = full_stays
