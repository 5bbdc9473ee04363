-- The four bytes are in one range, or gathered.
use Rattle.std.proofs.Common.{◌∙◌, Some, ap, sym, arith}
use Rattle.code_memory.specs.Mapped.{byte_at}
use Rattle.exec_run.proofs.Loads.{load_first, load_rest}
use Rattle.exec_run.proofs.access.fetch.Goals as goal

pub returns-in_err-rest : goal.returns-in_err-rest
returns-in_err-rest c = c.from_residual.ensures ∙ sym (load_first (byte_at c.args.memory.now) c.args.at 4 c.in_err-rest.ensures.missing (omega arith))

pub returns-then-rest-ge4 : goal.returns-then-rest-ge4
returns-then-rest-ge4 c =
    ap Some c.word.ensures ∙ sym (load_rest c.args.memory.now c.args.at 4 c.in_ok-rest.rest.now c.in_ok-rest.ensures.found c.if-rest-ge4.true)
