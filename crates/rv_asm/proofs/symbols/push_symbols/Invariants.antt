use Rattle.std.proofs.Common.{◌≡◌, ◌++◌, drop, map}
use Rattle.rv_asm.specs.Symbols.{symbol_of}
use Rattle.rv_asm.proofs.symbols.push_symbols.Given as goal

abbrev pub invariant-loop-number : goal.invariant-loop-number
invariant-loop-number l = l.items.items ++ map (symbol_of l.symbols) (drop l.number-index l.numbers) ≡ l.fn.items.items ++ map (symbol_of l.symbols) l.numbers
