use Rattle.unit_fixups.specs.Tables.{address_in}
use Rattle.unit_fixups.proofs.Whole.{all_made}
use Rattle.unit_fixups.proofs.image.write_all.Goals as goal

pub returns-clause-done : goal.returns-clause-done
returns-clause-done c =
    all_made c.args.g.now c.args.l.now c.args.base (address_in c.args.t.now) _ _ _ _ c.apply_edges.result c.fill_cells.ensures c.fill_stubs.ensures c.apply_edges.ensures.done
