use Rattle.std.proofs.Common.{◌≡◌, slice_get, Some, rules}
use Rattle.session_steps.proofs.Generating.{generator_there, owner_there, ready_by, some_mapped}
use Rattle.session_steps.proofs.live.Live.generated.Goals as goal

pub unwrap-generator-requires : goal.unwrap-generator-requires
unwrap-generator-requires g c = some_mapped _ c.get.result _ c.get.ensures (generator_there g.U.UnitKind.meaning c.args.self.now.parts g.m c.args.g c.requires.1.1.0 c.requires.1.1.1.1)

pub unwrap-tracker-requires : goal.unwrap-tracker-requires
unwrap-tracker-requires g c = owner_there g.U.UnitKind.meaning c.args.self.now.parts g.m c.args.g c.owner.result c.requires.1.1.0 c.requires.1.1.1.0 c.requires.1.1.1.1 c.owner.ensures.owner

pub returns : goal.returns
returns g c =
    let there : slice_get c.args.self.now.parts.generators.rows c.args.g.0 ≡ Some c.unwrap-generator.result.now = search rules in
    ready_by g.U.UnitKind.meaning c.args.self.now.parts g.m c.args.g c.unwrap-generator.result.now c.unwrap-tracker.result c.in_ok-unit.unit c.owner.result
    c.requires.1.1.0 c.requires.1.1.1.0 c.requires.1.1.1.1 there c.owner.ensures.owner c.unwrap-tracker.ensures c.in_ok-unit.ensures
