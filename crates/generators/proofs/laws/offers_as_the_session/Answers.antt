use Rattle.generators.proofs.Session.{offered_same}
use Rattle.generators.proofs.laws.offers_as_the_session.Goals as goal

pub returns : goal.returns
returns g c = offered_same g.U.UnitKind.meaning
