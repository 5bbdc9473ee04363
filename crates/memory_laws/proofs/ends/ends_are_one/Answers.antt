use Rattle.memory_laws.proofs.Chains.{ends_are_one}
use Rattle.memory_laws.proofs.ends.ends_are_one.Goals as goal

pub returns : goal.returns
returns c = ends_are_one
