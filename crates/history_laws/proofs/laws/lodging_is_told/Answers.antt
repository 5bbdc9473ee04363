use Rattle.history_laws.proofs.Events.{lodging_is_told}
use Rattle.history_laws.proofs.laws.lodging_is_told.Goals as goal

pub returns : goal.returns
returns g c = lodging_is_told g.U.UnitKind.meaning
