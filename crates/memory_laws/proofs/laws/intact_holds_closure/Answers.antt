use Rattle.memory_laws.proofs.Holding.{intact_holds}
use Rattle.memory_laws.proofs.laws.intact_holds_closure.Goals as goal
use Rattle.static_links.proofs.Linked.{image_is_linked}

pub returns : goal.returns
returns c = intact_holds image_is_linked
