use Rattle.std.proofs.Common.{◌≡◌, drop}
use Rattle.link_graph.specs.Checks.{symbol_error}
use Rattle.link_graph.proofs.relocs.symbols_refused.Given as goal

abbrev pub invariant-loop-k : goal.invariant-loop-k
invariant-loop-k l = symbol_error l.k (drop l.k l.symbols) ≡ symbol_error 0 l.symbols
