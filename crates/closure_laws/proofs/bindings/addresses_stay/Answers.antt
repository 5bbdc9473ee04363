use Rattle.closure_laws.proofs.Staying.{addresses_stay}
use Rattle.closure_laws.proofs.bindings.addresses_stay.Goals as goal

pub returns : goal.returns
returns c = addresses_stay
