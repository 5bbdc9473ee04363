use Rattle.std.proofs.Common.{◌≡◌, ◌++◌, take, drop, map, vec_capacity}
use Rattle.instances.specs.Table.{removed_row}
use Rattle.instances.proofs.rows.remove_rows.Given as goal

abbrev pub invariant-loop-i : goal.invariant-loop-i
invariant-loop-i l = record {
  rows : l.rows.items ≡ map (removed_row l.u.0) (take l.i l.initial.rows.items) ++ drop l.i l.initial.rows.items;
  capacity : vec_capacity l.rows ≡ vec_capacity l.initial.rows;
}
