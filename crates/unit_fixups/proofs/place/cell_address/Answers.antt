use Rattle.std.proofs.Common.{arith, length}
use Rattle.unit_fixups.proofs.Told.{read_of, offset_small}
use Rattle.unit_fixups.proofs.place.cell_address.Goals as goal

pub overflow_add-result : goal.overflow_add-result
overflow_add-result c =
    let count = length c.args.g.now.symbols in
    let read = read_of count c.args.symbol c.index.result.now c.args.l.now.cells c.args.t.now.cells.items c.requires.tables.cells c.requires.there c.index.ensures in
    let low = offset_small 8 c.args.l.now.shape.need count c.args.symbol c.index.result.now c.args.l.now.cells c.requires.lies.cells read in
    omega (arith, low, c.unwrap_or.ensures, c.requires.lies.room)
