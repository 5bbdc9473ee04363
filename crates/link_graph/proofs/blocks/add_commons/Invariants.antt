use Rattle.std.proofs.Common.{◌≡◌, ◌++◌, drop, map}
use Rattle.link_graph.specs.Object.{common_block, common_symbols}
use Rattle.link_graph.proofs.blocks.add_commons.Given as goal

abbrev pub invariant-loop-symbol : goal.invariant-loop-symbol
invariant-loop-symbol l =
    l.blocks.items ++ map common_block (common_symbols (drop l.symbol-index l.symbols)) ≡ l.initial.blocks.items ++ map common_block (common_symbols l.symbols)
