use Rattle.closure_laws.proofs.LinkedOnce.{unlinked_has_no_query}
use Rattle.closure_laws.proofs.queries.unlinked_has_no_query.Goals as goal

pub returns : goal.returns
returns c = unlinked_has_no_query
