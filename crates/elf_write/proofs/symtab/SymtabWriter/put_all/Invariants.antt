use Rattle.std.proofs.Common.{◌≡◌, drop}
use Rattle.elf_write.specs.Tables.{with_symbols}
use Rattle.elf_write.proofs.symtab.SymtabWriter.put_all.Given as goal

-- the symbols that are left give what all symbols give
abbrev pub invariant-loop-symbol : goal.invariant-loop-symbol
invariant-loop-symbol l = with_symbols (drop l.symbol-index l.symbols) l.self ≡ with_symbols l.symbols l.fn.self
