use Rattle.std.proofs.Common.{refl, rules}
use Rattle.got_stubs.specs.declared.parts.Part.TheVariants.{External}
use Rattle.link_model.specs.Graph.{own_symbols}
use Rattle.got_stubs.proofs.Noted.{part_is}
use Rattle.got_stubs.proofs.parts.externals_of.Goals as goal

pub returns : goal.returns
returns c =
    part_is External c.args.g.now.edges c.args.marks.now c.args.marks.now (own_symbols c.args.g.now.symbols c.args.live.now) c.deref.result.now c.in_ok-list_with.field-0.items c.in_ok-list_with.ensures.exact refl (search rules) (search rules) c.requires.marks
