use Rattle.closure_laws.proofs.Unstirred.{quiet_settles_none}
use Rattle.closure_laws.proofs.quiet.quiet_settles_none.Goals as goal

pub returns : goal.returns
returns c = quiet_settles_none
