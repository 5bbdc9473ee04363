use Rattle.session_laws.proofs.Ending.{open_has_no_end}
use Rattle.session_laws.proofs.queries.open_has_no_end.Goals as goal

pub returns : goal.returns
returns c = open_has_no_end
