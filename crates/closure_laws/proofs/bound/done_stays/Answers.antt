use Rattle.closure_laws.proofs.Lasting.{done_stays}
use Rattle.closure_laws.proofs.bound.done_stays.Goals as goal

pub returns : goal.returns
returns c = done_stays
