use Rattle.memory_laws.proofs.Closing.{closures_are_there}
use Rattle.memory_laws.proofs.Linked.{has_program, linked_by_names}
use Rattle.memory_laws.proofs.links.ready_name_has_program.Goals as goal
use Rattle.memory_laws.proofs.Objects.{names_are_defined}

pub returns : goal.returns
returns c = has_program (linked_by_names names_are_defined) closures_are_there
