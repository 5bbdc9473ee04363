use Rattle.std.proofs.Common.{◌≡◌, map}
use Rattle.elf_read.specs.Symbols.{symbol_in, numbers}
use Rattle.elf_read.proofs.build.build_symbols.Given as goal

abbrev pub invariant-loop-j : goal.invariant-loop-j
invariant-loop-j l = l.items.items ≡ map (symbol_in l.table) (numbers l.j)
