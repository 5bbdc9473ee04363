use Rattle.closure_laws.proofs.Staying.{failures_stay}
use Rattle.closure_laws.proofs.bindings.failures_stay.Goals as goal

pub returns : goal.returns
returns c = failures_stay
