-- The first of the bytes from the address on.
use Rattle.std.proofs.Common.{◌∙◌, ◌+◌, ap}
use Rattle.rv_hart.specs.Map.{byte_of}
use Rattle.code_memory.specs.Mapped.{byte_at}
use Rattle.exec_run.proofs.Loads.{first_of_rest}
use Rattle.exec_run.proofs.access.byte.Goals as goal

pub returns : goal.returns
returns c =
    first_of_rest c.args.memory.now c.in_ok-checked_add.field-0 c.in_ok-rest.rest.now c.in_ok-rest.ensures.found
    ∙ ap (byte_of (byte_at c.args.memory.now)) (c.in_ok-checked_add.ensures.1 ∙ ap (λ k. c.args.at + k) c.from.ensures)
