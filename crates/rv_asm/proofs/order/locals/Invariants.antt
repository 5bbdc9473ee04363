use Rattle.std.proofs.Common.{◌≡◌, ◌++◌, drop}
use Rattle.std.specs.List.{filter}
use Rattle.rv_asm.specs.Symbols.{is_local}
use Rattle.rv_asm.proofs.order.locals.Given as goal

abbrev pub invariant-loop-number : goal.invariant-loop-number
invariant-loop-number l = l.numbers.items ++ filter (is_local l.symbols) (drop l.number-index l.labels) ≡ filter (is_local l.symbols) l.labels
