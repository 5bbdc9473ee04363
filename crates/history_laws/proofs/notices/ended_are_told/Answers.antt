use Rattle.history_laws.proofs.Told.{ended_are_told}
use Rattle.history_laws.proofs.notices.ended_are_told.Goals as goal

pub returns : goal.returns
returns g c = ended_are_told
