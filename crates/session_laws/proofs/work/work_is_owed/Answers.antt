use Rattle.session_laws.proofs.Owing.{work_is_owed}
use Rattle.session_laws.proofs.work.work_is_owed.Goals as goal

pub returns : goal.returns
returns c = work_is_owed
