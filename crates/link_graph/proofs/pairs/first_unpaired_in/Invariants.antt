use Rattle.std.proofs.Common.{◌≡◌, drop}
use Rattle.link_graph.specs.Checks.{error_among}
use Rattle.link_graph.specs.Parts.{label_error}
use Rattle.link_graph.proofs.pairs.first_unpaired_in.Given as goal

abbrev pub invariant-loop-block : goal.invariant-loop-block
invariant-loop-block l =
    error_among (label_error l.labels.keys.keys l.places) l.block (drop l.block l.sections) ≡ error_among (label_error l.labels.keys.keys l.places) 0 l.sections
