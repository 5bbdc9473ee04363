use Rattle.std.proofs.Common.{◌≡◌, ◌++◌, drop}
use Rattle.link_graph.specs.Padding.{all_cuts}
use Rattle.link_graph.proofs.cuts.all_cuts.Given as goal

abbrev pub invariant-loop-section : goal.invariant-loop-section
invariant-loop-section l = l.cuts.items ++ all_cuts (drop l.section-index l.sections) ≡ all_cuts l.sections
