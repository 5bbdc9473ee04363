use Rattle.materialization.proofs.Stopping.{stop_cuts_job}
use Rattle.materialization.proofs.laws.stop_cuts_job.Goals as goal

pub returns : goal.returns
returns c = stop_cuts_job
