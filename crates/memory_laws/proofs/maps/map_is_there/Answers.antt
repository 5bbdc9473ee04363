use Rattle.memory_laws.proofs.Mapping.{map_is_there}
use Rattle.memory_laws.proofs.maps.map_is_there.Goals as goal

pub returns : goal.returns
returns c = map_is_there
