-- Each byte is the one at its address.
use Rattle.std.proofs.Common.{◌+◌, sym, subst, arith, set}
use Rattle.code_memory.specs.Mapped.{byte_at}
use Rattle.exec_run.specs.Regions.{IsGathered}
use Rattle.exec_run.proofs.Loads.{if_none, gathered_none, gathered_more}
use Rattle.exec_run.proofs.Spans.{bytes_none}
use Rattle.exec_run.proofs.access.gather.Goals as goal

pub loop-k-init : goal.loop-k-init
loop-k-init c = gathered_none c.args.memory.now c.args.at

pub returns-in_err-bytes-clause-missing : goal.returns-in_err-bytes-clause-missing
returns-in_err-bytes-clause-missing c =
    if_none _ _ (bytes_none (byte_at c.args.memory.now) c.args.at c.loop-k.k c.args.width (omega arith) (sym c.in_err-bytes.ensures))

pub loop-k-preserved : goal.loop-k-preserved
loop-k-preserved c =
    let ss = c.args.memory.now in
    subst (λ k. IsGathered ss c.args.at (c.loop-k.k + 1) (set c.loop-k.bytes k c.in_ok-bytes.field-0)) (sym c.from.ensures)
    (gathered_more ss c.args.at c.loop-k.k c.in_ok-bytes.field-0 c.loop-k.bytes c.loop-k.invariant (omega arith) (sym c.in_ok-bytes.ensures))
