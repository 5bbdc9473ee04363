use Rattle.std.proofs.Common.{◌≡◌, ◌+◌, drop}
use Rattle.std.specs.Prelude.{sum_by}
use Rattle.elf_read.specs.declared.object.Symbol.{Symbol}
use Rattle.link_graph.specs.Object.{common_symbols}
use Rattle.link_graph.proofs.limits.commons_exceed.Given as goal

abbrev pub invariant-loop-symbol : goal.invariant-loop-symbol
invariant-loop-symbol l =
    l.limit + sum_by (λ (s : Symbol). s.size) (common_symbols (drop l.symbol-index l.symbols)) ≡ l.left + sum_by (λ (s : Symbol). s.size) (common_symbols l.symbols)
