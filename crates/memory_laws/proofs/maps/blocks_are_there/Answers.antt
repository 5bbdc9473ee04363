use Rattle.memory_laws.proofs.Mapping.{blocks_are_there}
use Rattle.memory_laws.proofs.maps.blocks_are_there.Goals as goal

pub returns : goal.returns
returns c = blocks_are_there
