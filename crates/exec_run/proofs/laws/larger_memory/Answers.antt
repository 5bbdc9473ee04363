-- Each turn is the same on both memories.
use Rattle.exec_run.specs.Run.{start}
use Rattle.exec_run.specs.Start.{with_stack}
use Rattle.exec_run.proofs.Wider.{runs_wider, runs_narrower, stack_agrees}
use Rattle.exec_run.proofs.laws.larger_memory.Goals as goal

pub returns : goal.returns
returns c = λ memory larger pc args fuel end output agree stays.
    let both = stack_agrees memory larger agree in (
      λ runs. runs_wider fuel end output (start memory pc args) (with_stack larger) both stays runs,
      λ runs. runs_narrower fuel end output (start memory pc args) (with_stack larger) both stays runs,
    )
