use Rattle.materialization.proofs.Leaving.{others_leave_a_job}
use Rattle.materialization.proofs.laws.others_leave_a_job.Goals as goal

pub returns : goal.returns
returns c = others_leave_a_job
