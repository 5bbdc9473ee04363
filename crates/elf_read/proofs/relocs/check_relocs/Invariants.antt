use Rattle.std.proofs.Common.{◌≡◌, None}
use Rattle.elf_read.specs.Choice.{first_below}
use Rattle.elf_read.specs.Symbols.{relocs_refusal}
use Rattle.elf_read.proofs.relocs.check_relocs.Given as goal

abbrev pub invariant-loop-i : goal.invariant-loop-i
invariant-loop-i l = first_below l.i (relocs_refusal l.table) ≡ None
