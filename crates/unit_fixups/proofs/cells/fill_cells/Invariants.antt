use Rattle.std.proofs.Common.{◌≡◌, drop, map}
use Rattle.std.specs.Prelude.{slice_index}
use Rattle.link_model.specs.Image.{cell_write, all_written}
use Rattle.unit_fixups.specs.Tables.{address_in}
use Rattle.unit_fixups.proofs.cells.fill_cells.Given as goal

abbrev pub invariant-loop-cell : goal.invariant-loop-cell
invariant-loop-cell l = all_written (map (cell_write (address_in l.t)) (drop l.cell-index l.l.cells)) (slice_index l.image) ≡ all_written (map (cell_write (address_in l.t)) l.l.cells) (slice_index l.initial.image)
