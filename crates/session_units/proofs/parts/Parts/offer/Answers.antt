use Rattle.session_units.proofs.Looked.{found_in}
use Rattle.session_units.proofs.parts.Parts.offer.Goals as goal

pub returns : goal.returns
returns c = (found_in c.self.inside.graph c.args.self.now c.self.inside.offers.items c.args.k c.index-offer.result.now c.self.view_is c.self.invariant.0 c.self.invariant.4 c.requires c.index-offer.ensures).offer
