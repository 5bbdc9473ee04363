use Rattle.closure_laws.proofs.LinkedOnce.{linked_unit_is_there}
use Rattle.closure_laws.proofs.queries.linked_unit_is_there.Goals as goal

pub returns : goal.returns
returns c = linked_unit_is_there
