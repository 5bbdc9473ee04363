use Rattle.closure_laws.proofs.OwnRows.{units_fit}
use Rattle.closure_laws.proofs.instances.units_fit.Goals as goal

pub returns : goal.returns
returns c = units_fit
