use Rattle.session_laws.proofs.Ending.{end_stays}
use Rattle.session_laws.proofs.queries.end_stays.Goals as goal

pub returns : goal.returns
returns c = end_stays
