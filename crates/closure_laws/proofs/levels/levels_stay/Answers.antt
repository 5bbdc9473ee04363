use Rattle.closure_laws.proofs.LevelsStaying.{levels_stay}
use Rattle.closure_laws.proofs.levels.levels_stay.Goals as goal

pub returns : goal.returns
returns c = levels_stay
