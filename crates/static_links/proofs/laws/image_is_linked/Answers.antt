use Rattle.static_links.proofs.Linked.{image_is_linked}
use Rattle.static_links.proofs.laws.image_is_linked.Goals as goal

pub returns : goal.returns
returns c = image_is_linked
