use Rattle.history_laws.proofs.Events.{settling_is_told}
use Rattle.history_laws.proofs.laws.settling_is_told.Goals as goal

pub returns : goal.returns
returns g c = settling_is_told g.U.UnitKind.meaning
