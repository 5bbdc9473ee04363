use Rattle.closure_laws.proofs.Unspent.{unspent_have_trackers}
use Rattle.closure_laws.proofs.homes.unspent_have_trackers.Goals as goal

pub returns : goal.returns
returns c = unspent_have_trackers
