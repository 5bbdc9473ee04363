use Rattle.elf_read.proofs.Apart.{no_overlaps}
use Rattle.elf_read.proofs.overlaps.check_overlaps.Goals as goal

pub returns-then-lie_apart : goal.returns-then-lie_apart
returns-then-lie_apart c =
    no_overlaps c.args.table.now c.in_ok-taken_spans.field-0.items c.lie_apart.result c.in_ok-taken_spans.ensures c.if-lie_apart.true c.lie_apart.ensures
