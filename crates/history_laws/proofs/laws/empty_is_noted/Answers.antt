use Rattle.history_laws.proofs.Events.{empty_is_noted}
use Rattle.history_laws.proofs.laws.empty_is_noted.Goals as goal

pub returns : goal.returns
returns g c = empty_is_noted
