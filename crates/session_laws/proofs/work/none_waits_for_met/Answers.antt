use Rattle.session_laws.proofs.Owing.{none_waits_for_met}
use Rattle.session_laws.proofs.work.none_waits_for_met.Goals as goal

pub returns : goal.returns
returns c = none_waits_for_met
