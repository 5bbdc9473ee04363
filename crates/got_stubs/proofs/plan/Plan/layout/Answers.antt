use Rattle.std.proofs.Common.{◌∙◌, rules}
use Rattle.got_stubs.proofs.Steps.{layout_is}
use Rattle.got_stubs.proofs.plan.Plan.layout.Goals as goal

pub returns-clause-exact : goal.returns-clause-exact
returns-clause-exact c =
    layout_is c.args.g.now c.args.live.now c.from_vec-5.result c.args.self.now.end c.in_ok-cells.field-0.need c.args.self.now.align c.from_vec.result c.from_vec-4.result c.in_ok-parts.parts.cells.items c.in_ok-parts.parts.stubs.items c.from_vec-2.result c.from_vec-3.result
    (search rules) c.requires.end (search rules) (search rules) (search rules) (search rules) (search rules) c.requires.align (search rules) (search rules)
