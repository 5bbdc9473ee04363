use Rattle.session_laws.proofs.Ending.{end_is_unique}
use Rattle.session_laws.proofs.queries.end_is_unique.Goals as goal

pub returns : goal.returns
returns c = end_is_unique
