use Rattle.memory_laws.proofs.Linked.{linked_by_names}
use Rattle.memory_laws.proofs.links.program_is_linked_by_names.Goals as goal
use Rattle.memory_laws.proofs.Objects.{names_are_defined}

pub returns : goal.returns
returns c = linked_by_names names_are_defined
