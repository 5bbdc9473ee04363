use Rattle.session_laws.proofs.Rising.{finished_once}
use Rattle.session_laws.proofs.work.finished_once.Goals as goal

pub returns : goal.returns
returns c = finished_once
