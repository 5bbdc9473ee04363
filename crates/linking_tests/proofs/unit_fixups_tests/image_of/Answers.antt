use Rattle.std.proofs.Common.{rules}
use Rattle.unit_fixups.proofs.Placing.{placed_from}
use Rattle.linking_tests.proofs.unit_fixups_tests.image_of.Goals as goal

pub fix-requires-clause-placed : goal.fix-requires-clause-placed
fix-requires-clause-placed c = placed_from c.in_ok-graph.graph c.in_ok-layout.layout c.args.live.now c.args.base c.in_ok-graph.ensures.sound c.in_ok-layout.ensures.exact c.in_ok-layout.ensures.small (search rules)
