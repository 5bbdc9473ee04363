use Rattle.session_laws.proofs.Rising.{phases_rise}
use Rattle.session_laws.proofs.work.phases_rise.Goals as goal

pub returns : goal.returns
returns c = phases_rise
