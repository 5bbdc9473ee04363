use Rattle.std.proofs.Common.{◌≡◌, ◌≤◌, length}
use Rattle.query_book.specs.States.{NoneBefore}
use Rattle.query_book.proofs.rows.take_first.Given as goal

abbrev pub invariant-loop-at : goal.invariant-loop-at
invariant-loop-at g l = record {
  same : l.armed.items ≡ l.initial.armed.items;
  none : NoneBefore l.at l.armed.items;
  here : l.unarmed ≡ l.at;
  few : l.at ≤ length l.armed.items;
}
