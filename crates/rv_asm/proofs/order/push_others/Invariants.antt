use Rattle.std.proofs.Common.{◌≡◌, ◌++◌}
use Rattle.rv_asm.specs.Symbols.{others_below}
use Rattle.rv_asm.proofs.order.push_others.Given as goal

abbrev pub invariant-loop-number : goal.invariant-loop-number
invariant-loop-number l = l.numbers.items ≡ l.fn.numbers.items ++ others_below l.symbols l.number
