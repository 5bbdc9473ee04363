-- The bytes are in one range, or gathered.
use Rattle.std.proofs.Common.{◌∙◌, ◌≤◌, Some, ap, sym, arith, length}
use Rattle.code_memory.specs.Mapped.{byte_at}
use Rattle.exec_run.proofs.Loads.{wide, load_first, load_rest}
use Rattle.exec_run.proofs.access.load.Goals as goal

pub returns-in_err-rest : goal.returns-in_err-rest
returns-in_err-rest c = c.from_residual.ensures ∙ sym (load_first (byte_at c.args.memory.now) c.args.at c.args.width c.in_err-rest.ensures.missing (wide c.args.width c.requires).0)

pub returns-then-from-rest : goal.returns-then-from-rest
returns-then-from-rest c =
    let less : c.args.width ≤ length c.in_ok-rest.rest.now = omega (arith, c.from.ensures, c.if-from-rest.true) in
    ap Some c.number.ensures ∙ sym (load_rest c.args.memory.now c.args.at c.args.width c.in_ok-rest.rest.now c.in_ok-rest.ensures.found less)
