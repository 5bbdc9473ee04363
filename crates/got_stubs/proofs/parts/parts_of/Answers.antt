use Rattle.std.proofs.Common.{refl, rules}
use Rattle.got_stubs.specs.declared.parts.Part.TheVariants.{External, Cell, Stub}
use Rattle.link_model.specs.Graph.{own_symbols}
use Rattle.got_stubs.proofs.Noted.{part_is}
use Rattle.got_stubs.proofs.parts.parts_of.Goals as goal

pub returns-clause-externals : goal.returns-clause-externals
returns-clause-externals c =
    part_is External c.args.g.now.edges c.args.marks.now c.args.marks.now (own_symbols c.args.g.now.symbols c.args.live.now) c.deref.result.now c.in_ok-lists_of.field-0.externals.items c.in_ok-lists_of.ensures.externals refl (search rules) (search rules) c.requires.marks

pub returns-clause-cells : goal.returns-clause-cells
returns-clause-cells c =
    part_is Cell c.args.g.now.edges c.args.marks.now c.args.marks.now (own_symbols c.args.g.now.symbols c.args.live.now) c.deref.result.now c.in_ok-lists_of.field-0.cells.items c.in_ok-lists_of.ensures.cells refl (search rules) (search rules) c.requires.marks

pub returns-clause-stubs : goal.returns-clause-stubs
returns-clause-stubs c =
    part_is Stub c.args.g.now.edges c.args.marks.now c.args.marks.now (own_symbols c.args.g.now.symbols c.args.live.now) c.deref.result.now c.in_ok-lists_of.field-0.stubs.items c.in_ok-lists_of.ensures.stubs refl (search rules) (search rules) c.requires.marks
