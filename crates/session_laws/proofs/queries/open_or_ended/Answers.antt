use Rattle.session_laws.proofs.Ending.{open_or_ended}
use Rattle.session_laws.proofs.queries.open_or_ended.Goals as goal

pub returns : goal.returns
returns c = open_or_ended
