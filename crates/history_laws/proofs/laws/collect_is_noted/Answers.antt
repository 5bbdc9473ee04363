use Rattle.history_laws.proofs.Events.{collect_is_noted}
use Rattle.history_laws.proofs.laws.collect_is_noted.Goals as goal

pub returns : goal.returns
returns g c = collect_is_noted g.U.UnitKind.meaning
