use Rattle.elf_read.specs.Index.{AreEnds}
use Rattle.elf_read.proofs.string_table.ends_of.Given as goal

abbrev pub invariant-loop-i : goal.invariant-loop-i
invariant-loop-i l = AreEnds l.bytes l.i l.ends.items
