use Rattle.closure_laws.proofs.Offering.{instances_are_offered}
use Rattle.closure_laws.proofs.instances.instances_are_offered.Goals as goal

pub returns : goal.returns
returns c = instances_are_offered
