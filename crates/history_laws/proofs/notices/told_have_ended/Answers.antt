use Rattle.history_laws.proofs.Told.{told_have_ended}
use Rattle.history_laws.proofs.notices.told_have_ended.Goals as goal

pub returns : goal.returns
returns g c = told_have_ended
