use Rattle.std.proofs.Common.{◌≡◌, ◌≤◌, ◌+◌, ◌++◌, drop, length, vec_capacity}
use Rattle.instances.specs.Table.{fresh_rows}
use Rattle.instances.proofs.rows.push_rows.Given as goal

abbrev pub invariant-loop-k : goal.invariant-loop-k
invariant-loop-k l = record {
  rest : l.rows.items ++ fresh_rows l.d.0 l.u.0 l.k (drop l.k l.offers) (drop l.k l.live) ≡ l.initial.rows.items ++ fresh_rows l.d.0 l.u.0 0 l.offers l.live;
  room : length l.rows.items + length l.offers ≤ vec_capacity l.rows + l.k;
  capacity : vec_capacity l.rows ≡ vec_capacity l.initial.rows;
}
