use Rattle.closure_laws.proofs.Linking.{unbound_is_weak}
use Rattle.closure_laws.proofs.links.unbound_is_weak.Goals as goal

pub returns : goal.returns
returns c = unbound_is_weak
