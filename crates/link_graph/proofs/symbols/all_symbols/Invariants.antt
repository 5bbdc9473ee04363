use Rattle.std.proofs.Common.{◌≤◌, ◌+◌}
use Rattle.orc_names.specs.Numbers.{KeepsNumbers}
use Rattle.link_graph.specs.Read.{AddsNamesOf}
use Rattle.link_graph.proofs.NameNumbers.{AreFirstNamed}
use Rattle.link_graph.proofs.LaterNames.{AreMadeUpTo}
use Rattle.link_graph.proofs.symbols.all_symbols.Given as goal

abbrev pub invariant-loop-s : goal.invariant-loop-s
invariant-loop-s l =
    (l.common ≤ l.first_common + l.s-index) × AreMadeUpTo l.names l.cuts l.first_common l.common l.symbols l.s-index l.made.items
    × (KeepsNumbers l.initial.names l.names) × (AreFirstNamed l.names l.symbols l.s-index) × AddsNamesOf l.symbols l.initial.names l.names
