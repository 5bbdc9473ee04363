use Rattle.std.proofs.Common.{arith, ◌∙◌, sym, length}
use Rattle.unit_fixups.proofs.Told.{read_of, offset_inside}
use Rattle.unit_fixups.proofs.place.call_address.Goals as goal

pub overflow_add-result : goal.overflow_add-result
overflow_add-result c =
    let count = length c.args.g.now.symbols in
    let read = read_of count c.args.symbol c.index.result.now c.args.l.now.stubs c.args.t.now.stubs.items c.requires.tables.stubs c.requires.there c.index.ensures in
    let low = offset_inside 16 c.args.l.now.shape.need count c.args.symbol c.in-Some.stub c.args.l.now.stubs c.requires.lies.stubs (sym read ∙ c.in-Some.is) in
    omega (arith, low, c.requires.lies.room)
