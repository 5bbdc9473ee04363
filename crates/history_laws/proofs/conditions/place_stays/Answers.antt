use Rattle.history_laws.proofs.Calling.{place_stays}
use Rattle.history_laws.proofs.conditions.place_stays.Goals as goal

pub returns : goal.returns
returns c = place_stays
