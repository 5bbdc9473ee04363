use Rattle.std.proofs.Common.{◌≡◌, ◌<◌, ℕ, length, slice_get, Some, None}
use Rattle.instances.proofs.groups.empty_table.Given as goal

abbrev pub invariant-loop : goal.invariant-loop
invariant-loop l = record {
  count : length l.table.items ≡ l.counter;
  empty : (j : ℕ) → j < l.counter → slice_get l.table.items j ≡ Some None;
}
