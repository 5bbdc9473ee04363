use Rattle.session_laws.proofs.Rising.{started_once}
use Rattle.session_laws.proofs.work.started_once.Goals as goal

pub returns : goal.returns
returns c = started_once
