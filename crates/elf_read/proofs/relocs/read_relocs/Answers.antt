use Rattle.std.proofs.Common.{◌∙◌}
use Rattle.elf_read.proofs.RelocEntries.{relocs-more}
use Rattle.elf_read.proofs.relocs.read_relocs.Goals as goal

pub loop-k-preserved : goal.loop-k-preserved
loop-k-preserved c =
    c.in_ok-push.ensures.items ∙ relocs-more c.args.table.now c.args.section.now c.loop-k.k c.loop-k.items.items c.reloc.result c.loop-k.invariant c.reloc.ensures
