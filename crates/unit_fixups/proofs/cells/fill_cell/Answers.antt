use Rattle.std.proofs.Common.{rules}
use Rattle.unit_fixups.proofs.Filled.{cell_written}
use Rattle.unit_fixups.proofs.cells.fill_cell.Goals as goal

pub returns : goal.returns
returns c = cell_written c.args.at c.args.address _ _ (search rules) c.put_le.ensures.exact
