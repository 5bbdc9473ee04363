use Rattle.session_laws.proofs.Ending.{query_was_asked}
use Rattle.session_laws.proofs.queries.query_was_asked.Goals as goal

pub returns : goal.returns
returns c = query_was_asked
