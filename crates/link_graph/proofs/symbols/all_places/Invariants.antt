use Rattle.std.proofs.Common.{◌≡◌, ◌+◌, ◌≤◌, ◌++◌, drop, map}
use Rattle.link_graph.specs.Padding.{trimmed_symbol}
use Rattle.link_graph.specs.Parts.{graph_places}
use Rattle.link_graph.proofs.symbols.all_places.Given as goal

abbrev pub invariant-loop-s : goal.invariant-loop-s
invariant-loop-s l =
    (l.common ≤ l.first_common + l.s-index) × (l.places.items ++ graph_places l.common (map (trimmed_symbol l.cuts) (drop l.s-index l.symbols)) ≡ graph_places l.first_common (map (trimmed_symbol l.cuts) l.symbols))
