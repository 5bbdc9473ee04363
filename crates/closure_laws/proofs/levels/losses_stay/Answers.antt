use Rattle.closure_laws.proofs.LevelsStaying.{losses_stay}
use Rattle.closure_laws.proofs.levels.losses_stay.Goals as goal

pub returns : goal.returns
returns c = losses_stay
