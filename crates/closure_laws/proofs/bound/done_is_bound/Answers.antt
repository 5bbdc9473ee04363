use Rattle.closure_laws.proofs.Linking.{done_is_bound}
use Rattle.closure_laws.proofs.bound.done_is_bound.Goals as goal

pub returns : goal.returns
returns c = done_is_bound
