use Rattle.materialization.proofs.Driving.{driven_job_is_one}
use Rattle.materialization.proofs.laws.driven_job_is_one.Goals as goal

pub returns : goal.returns
returns c = driven_job_is_one
