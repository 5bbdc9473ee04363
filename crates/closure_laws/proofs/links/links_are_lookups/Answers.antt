use Rattle.closure_laws.proofs.Linking.{links_are_lookups}
use Rattle.closure_laws.proofs.links.links_are_lookups.Goals as goal

pub returns : goal.returns
returns c = links_are_lookups
