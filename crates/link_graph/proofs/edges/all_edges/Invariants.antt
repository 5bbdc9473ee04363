use Rattle.std.proofs.Common.{◌≡◌, ◌++◌, drop}
use Rattle.link_graph.specs.Parts.{trimmed_edges}
use Rattle.link_graph.proofs.edges.all_edges.Given as goal

abbrev pub invariant-loop-block : goal.invariant-loop-block
invariant-loop-block l = l.edges.items ++ trimmed_edges l.block (drop l.block l.sections) ≡ trimmed_edges 0 l.sections
