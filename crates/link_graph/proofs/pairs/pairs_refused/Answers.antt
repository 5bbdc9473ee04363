use Rattle.std.proofs.Common.{◌∙◌}
use Rattle.link_graph.proofs.Whole.{label_errors}
use Rattle.link_graph.proofs.pairs.pairs_refused.Goals as goal

pub returns : goal.returns
returns c = c.first_unpaired_in.ensures ∙ label_errors _ c.args.places.now c.args.edges.now 0 c.args.sections.now c.in_ok-labels.ensures
