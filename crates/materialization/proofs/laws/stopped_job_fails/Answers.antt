use Rattle.materialization.proofs.Stopping.{stopped_job_fails}
use Rattle.materialization.proofs.laws.stopped_job_fails.Goals as goal

pub returns : goal.returns
returns c = stopped_job_fails
