use Rattle.closure_laws.proofs.OwnRows.{instances_are_live}
use Rattle.closure_laws.proofs.instances.instances_are_live.Goals as goal

pub returns : goal.returns
returns c = instances_are_live
