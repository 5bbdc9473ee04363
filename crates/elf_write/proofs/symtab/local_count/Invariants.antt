use Rattle.std.proofs.Common.{◌≡◌, ◌+◌, ◌≤◌, length, drop}
use Rattle.std.specs.List.{filter}
use Rattle.elf_write.specs.Tables.{is_local}
use Rattle.elf_write.proofs.symtab.local_count.Given as goal

abbrev pub invariant-loop-symbol : goal.invariant-loop-symbol
invariant-loop-symbol l = (l.count + length (filter is_local (drop l.symbol-index l.symbols)) ≡ length (filter is_local l.symbols)) × (l.count ≤ l.symbol-index)
