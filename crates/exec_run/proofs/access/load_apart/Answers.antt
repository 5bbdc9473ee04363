-- The bytes are gathered.
use Rattle.std.proofs.Common.{◌∙◌, Some, ap, sym, take}
use Rattle.code_memory.specs.Mapped.{byte_at}
use Rattle.exec_run.specs.Regions.{number_of}
use Rattle.exec_run.proofs.Loads.{load_missing, load_gathered}
use Rattle.exec_run.proofs.access.load_apart.Goals as goal

pub returns-in_err-bytes : goal.returns-in_err-bytes
returns-in_err-bytes c = c.from_residual.ensures ∙ sym (load_missing (byte_at c.args.memory.now) c.args.at c.args.width c.in_err-bytes.ensures.missing)

pub returns : goal.returns
returns c =
    ap Some (c.number.ensures ∙ ap (λ bs. number_of (take 8 bs)) c.as_slice.ensures) ∙ sym (load_gathered c.args.memory.now c.args.at c.args.width c.in_ok-bytes.bytes c.in_ok-bytes.ensures.found)
