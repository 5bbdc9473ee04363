use Rattle.run_answers.proofs.Full.{never_full}
use Rattle.run_answers.proofs.laws.never_full.Goals as goal

pub returns : goal.returns
returns c = never_full
