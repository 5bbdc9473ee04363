use Rattle.memory_laws.proofs.Chains.{ends_exist}
use Rattle.memory_laws.proofs.ends.ends_exist.Goals as goal

pub returns : goal.returns
returns c = ends_exist
