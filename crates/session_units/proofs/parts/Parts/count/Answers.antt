use Rattle.std.proofs.Common.{rules}
use Rattle.session_units.proofs.Looked.{offers_few}
use Rattle.session_units.proofs.parts.Parts.count.Goals as goal

pub overflow_cast-result : goal.overflow_cast-result
overflow_cast-result c = search (rules, offers_few c.self.inside.graph c.self.inside.offers.items c.self.invariant.4 c.self.invariant.1)
