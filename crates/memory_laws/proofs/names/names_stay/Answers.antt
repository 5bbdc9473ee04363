use Rattle.memory_laws.proofs.Objects.{names_stay}
use Rattle.memory_laws.proofs.names.names_stay.Goals as goal

pub returns : goal.returns
returns c = names_stay
