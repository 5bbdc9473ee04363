use Rattle.materialization.proofs.Going.{job_goes_on}
use Rattle.materialization.proofs.laws.job_goes_on.Goals as goal

pub returns : goal.returns
returns c = job_goes_on
