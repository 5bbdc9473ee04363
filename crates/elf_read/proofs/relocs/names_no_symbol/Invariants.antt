use Rattle.std.proofs.Common.{◌≡◌, false}
use Rattle.elf_read.specs.Choice.{any_below}
use Rattle.elf_read.proofs.RelocEntries.{bad_at}
use Rattle.elf_read.proofs.relocs.names_no_symbol.Given as goal

abbrev pub invariant-loop-k : goal.invariant-loop-k
invariant-loop-k l = any_below l.k (bad_at l.table l.section) ≡ false
