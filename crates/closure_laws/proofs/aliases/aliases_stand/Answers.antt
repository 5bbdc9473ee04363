use Rattle.closure_laws.proofs.Standing.{aliases_stand}
use Rattle.closure_laws.proofs.aliases.aliases_stand.Goals as goal

pub returns : goal.returns
returns c = aliases_stand
