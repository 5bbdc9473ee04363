use Rattle.memory_laws.proofs.Closing.{intact_ends_stand_there}
use Rattle.memory_laws.proofs.maps.intact_ends_stand_there.Goals as goal

pub returns : goal.returns
returns c = intact_ends_stand_there
