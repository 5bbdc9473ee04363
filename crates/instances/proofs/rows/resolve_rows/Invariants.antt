use Rattle.std.proofs.Common.{◌≡◌, ◌++◌, take, drop, map, vec_capacity}
use Rattle.instances.specs.Rows.{addressed_row}
use Rattle.instances.proofs.rows.resolve_rows.Given as goal

abbrev pub invariant-loop-i : goal.invariant-loop-i
invariant-loop-i g l = record {
  rows : l.rows.items ≡ map (addressed_row l.u.0 (λ k. (g.U.UnitKind.meaning l.unit).address k l.base)) (take l.i l.initial.rows.items) ++ drop l.i l.initial.rows.items;
  capacity : vec_capacity l.rows ≡ vec_capacity l.initial.rows;
}
