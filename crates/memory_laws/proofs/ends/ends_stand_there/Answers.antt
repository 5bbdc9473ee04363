use Rattle.memory_laws.proofs.Chains.{ends_stand_there}
use Rattle.memory_laws.proofs.ends.ends_stand_there.Goals as goal

pub returns : goal.returns
returns c = ends_stand_there
