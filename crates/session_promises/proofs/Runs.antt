-- A run from an intact symbol is the run of the program of its closure.
use Rattle.std.proofs.Common.{◌∙◌}
use Rattle.code_memory.specs.Mapped.{byte_at}
use Rattle.exec_run.specs.Larger.{Agrees}
use Rattle.exec_run.specs.Run.{start}
use Rattle.exec_run.specs.Start.{with_stack}
use Rattle.exec_run.proofs.Wider.{runs_narrower, runs_wider, stack_agrees}
use Rattle.memory_laws.specs.Laws.{IntactHoldsClosure}
use Rattle.session_promises.specs.Laws.{IntactRunsAsLinked}

pub intact_runs_as_linked : IntactHoldsClosure → IntactRunsAsLinked
intact_runs_as_linked holds jmax h legal ranges are i closure c address args fuel end output stays =
    let agree : Agrees closure (byte_at ranges) = record { same = λ at byte e. are at ∙ holds jmax h legal c.graphs c.are c.spots c.bound i c.intact c.first c.starts closure c.linked at byte e } in
    let both = stack_agrees closure (byte_at ranges) agree in (
      λ runs. runs_wider fuel end output (start closure address args) (with_stack (byte_at ranges)) both stays runs,
      λ runs. runs_narrower fuel end output (start closure address args) (with_stack (byte_at ranges)) both stays runs,
    )
