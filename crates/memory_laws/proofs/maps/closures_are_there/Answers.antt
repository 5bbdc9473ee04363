use Rattle.memory_laws.proofs.Closing.{closures_are_there}
use Rattle.memory_laws.proofs.maps.closures_are_there.Goals as goal

pub returns : goal.returns
returns c = closures_are_there
