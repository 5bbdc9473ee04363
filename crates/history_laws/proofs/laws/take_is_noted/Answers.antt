use Rattle.history_laws.proofs.Events.{take_is_noted}
use Rattle.history_laws.proofs.laws.take_is_noted.Goals as goal

pub returns : goal.returns
returns g c = take_is_noted g.U.UnitKind.meaning
