use Rattle.session_laws.proofs.Owing.{idle_has_none}
use Rattle.session_laws.proofs.work.idle_has_no_open_query.Goals as goal

pub returns : goal.returns
returns c = idle_has_none
