use Rattle.closure_laws.proofs.Ends.{bindings_are_ends}
use Rattle.closure_laws.proofs.bindings.bindings_are_ends.Goals as goal

pub returns : goal.returns
returns c = bindings_are_ends
