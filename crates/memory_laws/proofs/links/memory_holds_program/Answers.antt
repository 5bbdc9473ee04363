use Rattle.memory_laws.proofs.Holding.{intact_holds}
use Rattle.memory_laws.proofs.Linked.{holds_program, linked_by_names}
use Rattle.memory_laws.proofs.links.memory_holds_program.Goals as goal
use Rattle.memory_laws.proofs.Objects.{names_are_defined}
use Rattle.static_links.proofs.Linked.{image_is_linked}

pub returns : goal.returns
returns c = holds_program (linked_by_names names_are_defined) (intact_holds image_is_linked)
