-- Each turn is the only one.
use Rattle.exec_run.specs.Run.{start}
use Rattle.exec_run.proofs.Runs.{runs_same}
use Rattle.exec_run.proofs.laws.runs_have_one_end.Goals as goal

pub returns : goal.returns
returns c = λ memory pc args fuel end end' output output' a b. runs_same fuel (start memory pc args) end end' output output' a b
