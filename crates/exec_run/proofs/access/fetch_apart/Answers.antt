-- The four bytes are gathered.
use Rattle.std.proofs.Common.{◌∙◌, Some, ap, sym, take}
use Rattle.code_memory.specs.Mapped.{byte_at}
use Rattle.exec_run.specs.Regions.{number_of}
use Rattle.exec_run.proofs.Loads.{load_missing, load_found}
use Rattle.exec_run.proofs.access.fetch_apart.Goals as goal

pub returns-in_err-bytes : goal.returns-in_err-bytes
returns-in_err-bytes c = c.from_residual.ensures ∙ sym (load_missing (byte_at c.args.memory.now) c.args.at 4 c.in_err-bytes.ensures.missing)

pub returns : goal.returns
returns c =
    ap Some (c.word.ensures ∙ ap (λ bs. number_of (take 4 bs)) c.as_slice.ensures) ∙ sym (load_found (byte_at c.args.memory.now) c.args.at 4 (take 4 c.in_ok-bytes.bytes) c.in_ok-bytes.ensures.found.mapped)
