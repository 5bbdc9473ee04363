use Rattle.closure_laws.proofs.Naming.{bound_by_name}
use Rattle.closure_laws.proofs.links.bound_by_name.Goals as goal

pub returns : goal.returns
returns c = bound_by_name
