use Rattle.std.proofs.Common.{arith, get_or, length, subst, sym}
use Rattle.std.specs.List.{All}
use Rattle.link_model.specs.Layout.{STUB_SIZE}
use Rattle.unit_fixups.specs.Sound.{PartLies}
use Rattle.unit_fixups.proofs.Told.{read_of, offset_small}
use Rattle.unit_fixups.proofs.cells.fill_stubs.Goals as goal

pub fill_stub-requires-clause-near_cell : goal.fill_stub-requires-clause-near_cell
fill_stub-requires-clause-near_cell c =
    let stubs = c.as_slice-stub-items.result.now in
    let count = length c.args.g.now.symbols in
    let lies = subst (All (PartLies c.args.g.now c.args.l.now STUB_SIZE)) (sym c.as_slice-stub-items.ensures) c.requires.lies.stubs c.loop-stub.stub-index (0, 0) c.loop-stub-test.true in
    let read = read_of count (get_or stubs c.loop-stub.stub-index (0, 0)).0 c.index.result.now c.args.l.now.cells c.args.t.now.cells.items c.requires.tables.cells lies.0 c.index.ensures in
    let low = offset_small 8 c.args.l.now.shape.need count (get_or stubs c.loop-stub.stub-index (0, 0)).0 c.index.result.now c.args.l.now.cells c.requires.lies.cells read in
    omega (arith, low, c.unwrap_or-cell.ensures, c.requires.lies.small)
