use Rattle.std.proofs.Common.{◌≡◌, ◌≤◌, ◌+◌, ◌++◌, ℕ, List, take, drop, length, slice_get, vec_capacity}
use Rattle.orc_ids.specs.declared.groups.Group.{Group}
use Rattle.session_model.specs.Lists.{numbered}
use Rattle.session_model.specs.Change.{emitted_row}
use Rattle.instances.specs.Groups.{HasDeps}
use Rattle.instances.proofs.rows.emit_rows.Given as goal

abbrev pub invariant-loop-j : goal.invariant-loop-j
invariant-loop-j l = record {
  rows : (groups : List Group) → HasDeps groups l.first (length l.initial.table.items) l.initial.table.items → l.rows.items ≡ numbered (emitted_row l.u.0 groups) 0 (take (l.first + l.j) l.initial.rows.items) ++ drop (l.first + l.j) l.initial.rows.items;
  count : length l.rows.items ≡ length l.initial.rows.items;
  inside : length l.table.items ≡ length l.initial.table.items;
  ahead : (i : ℕ) → l.j ≤ i → slice_get l.table.items i ≡ slice_get l.initial.table.items i;
  capacity : vec_capacity l.rows ≡ vec_capacity l.initial.rows;
}
