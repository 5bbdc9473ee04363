use Rattle.unit_fixups.proofs.Closed.{closed_alone}
use Rattle.unit_fixups.proofs.alone.closed_graph_is_alone.Goals as goal

pub returns : goal.returns
returns c = closed_alone c.args.g.now c.args.l.now c.requires.closed c.requires.laid c.requires.live
