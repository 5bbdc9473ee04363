use Rattle.std.proofs.Common.{◌≡◌, take, vec_capacity}
use Rattle.instances.specs.Table.{replaced_row, AreChanged}
use Rattle.instances.proofs.rows.replace_rows.Given as goal

abbrev pub invariant-loop-i : goal.invariant-loop-i
invariant-loop-i l = record {
  rows : AreChanged (replaced_row (take l.i-index l.gone)) l.initial.rows.items l.rows.items;
  capacity : vec_capacity l.rows ≡ vec_capacity l.initial.rows;
}
