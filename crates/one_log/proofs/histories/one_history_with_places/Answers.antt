use Rattle.one_log.proofs.Places.{one_history_with_places}
use Rattle.one_log.proofs.histories.one_history_with_places.Goals as goal

pub returns : goal.returns
returns c = one_history_with_places
