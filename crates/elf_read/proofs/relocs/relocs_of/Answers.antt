use Rattle.std.proofs.Common.{sym}
use Rattle.elf_read.proofs.RelocEntries.{rela-inside}
use Rattle.elf_read.proofs.relocs.relocs_of.Goals as goal

pub read_relocs-requires : goal.read_relocs-requires
read_relocs-requires c = rw c.section.ensures (rela-inside c.args.table.now c.args.i c.in-Some.r c.requires.sections c.requires.kept (sym c.in-Some.ensures))
