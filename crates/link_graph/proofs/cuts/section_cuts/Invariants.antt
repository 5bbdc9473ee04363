use Rattle.std.proofs.Common.{◌≡◌, ◌≤◌, ◌++◌, drop}
use Rattle.link_graph.specs.Padding.{cuts_from, cuts_of}
use Rattle.link_graph.proofs.cuts.section_cuts.Given as goal

abbrev pub invariant-loop-r : goal.invariant-loop-r
invariant-loop-r l = (l.before ≤ l.end) × (l.items.items ++ cuts_from l.section.size l.end l.before (drop l.r-index l.section.relocs) ≡ cuts_of l.section)
