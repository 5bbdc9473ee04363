use Rattle.std.proofs.Common.{◌≡◌, None}
use Rattle.elf_read.specs.Choice.{first_below}
use Rattle.elf_read.proofs.Tables.{symtab_here}
use Rattle.elf_read.proofs.table.first_symtab.Given as goal

abbrev pub invariant-loop-i : goal.invariant-loop-i
invariant-loop-i l = first_below l.i (symtab_here l.file) ≡ None
