use Rattle.history_laws.proofs.Events.{quiet_is_noted}
use Rattle.history_laws.proofs.laws.quiet_is_noted.Goals as goal

pub returns : goal.returns
returns g c = quiet_is_noted g.U.UnitKind.meaning
