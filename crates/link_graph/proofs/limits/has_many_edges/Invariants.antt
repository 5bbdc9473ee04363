use Rattle.std.proofs.Common.{◌≡◌, ◌+◌, drop}
use Rattle.link_model.specs.Sound.{MAX_EDGES}
use Rattle.link_graph.specs.Checks.{edge_count}
use Rattle.link_graph.proofs.limits.has_many_edges.Given as goal

abbrev pub invariant-loop-section : goal.invariant-loop-section
invariant-loop-section l = MAX_EDGES + edge_count (drop l.section-index l.sections) ≡ l.left + edge_count l.sections
