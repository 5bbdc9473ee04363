use Rattle.std.proofs.Common.{◌≡◌, take, vec_capacity}
use Rattle.instances.specs.Table.{failed_row, AreChanged}
use Rattle.instances.proofs.rows.fail_rows.Given as goal

abbrev pub invariant-loop-i : goal.invariant-loop-i
invariant-loop-i l = record {
  rows : AreChanged (failed_row (take l.i-index l.hit)) l.initial.rows.items l.rows.items;
  capacity : vec_capacity l.rows ≡ vec_capacity l.initial.rows;
}
