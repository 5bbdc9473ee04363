use Rattle.memory_laws.proofs.Objects.{names_are_defined}
use Rattle.memory_laws.proofs.names.names_are_defined.Goals as goal

pub returns : goal.returns
returns c = names_are_defined
