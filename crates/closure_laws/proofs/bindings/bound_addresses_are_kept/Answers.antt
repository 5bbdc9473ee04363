use Rattle.closure_laws.proofs.Ends.{bound_addresses_are_kept}
use Rattle.closure_laws.proofs.bindings.bound_addresses_are_kept.Goals as goal

pub returns : goal.returns
returns c = bound_addresses_are_kept
