use Rattle.one_log.proofs.One.{whole_runs_are_one}
use Rattle.one_log.proofs.histories.whole_runs_are_one.Goals as goal

pub returns : goal.returns
returns c = whole_runs_are_one
