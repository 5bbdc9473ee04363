use Rattle.std.proofs.Common.{◌≡◌, drop}
use Rattle.link_graph.specs.Checks.{first_error}
use Rattle.link_graph.specs.Parts.{label_error}
use Rattle.link_graph.proofs.pairs.first_unpaired.Given as goal

abbrev pub invariant-loop-r : goal.invariant-loop-r
invariant-loop-r l =
    first_error (label_error l.labels.keys.keys l.places l.block) (drop l.r-index l.relocs) ≡ first_error (label_error l.labels.keys.keys l.places l.block) l.relocs
