use Rattle.std.proofs.Common.{◌≡◌, ℕ, drop}
use Rattle.std.specs.Prelude.{◌||◌}
use Rattle.link_graph.specs.Parts.{has_label, stands_at}
use Rattle.link_graph.proofs.pairs.upper_labels.Given as goal

abbrev pub invariant-loop-e : goal.invariant-loop-e
invariant-loop-e l = (block offset : ℕ) → (has_label l.keys.keys block offset || stands_at (drop l.e-index l.edges) block offset) ≡ stands_at l.edges block offset
