use Rattle.closure_laws.proofs.LinkedOnce.{unit_is_linked_once}
use Rattle.closure_laws.proofs.queries.unit_is_linked_once.Goals as goal

pub returns : goal.returns
returns c = unit_is_linked_once
