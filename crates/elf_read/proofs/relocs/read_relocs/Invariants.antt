use Rattle.std.proofs.Common.{◌≡◌, map}
use Rattle.elf_read.specs.Symbols.{reloc, numbers}
use Rattle.elf_read.proofs.relocs.read_relocs.Given as goal

abbrev pub invariant-loop-k : goal.invariant-loop-k
invariant-loop-k l = l.items.items ≡ map (reloc l.table l.section) (numbers l.k)
