use Rattle.materialization.proofs.Beginning.{job_begins}
use Rattle.materialization.proofs.laws.job_begins.Goals as goal

pub returns : goal.returns
returns c = job_begins
