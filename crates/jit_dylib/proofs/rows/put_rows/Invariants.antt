use Rattle.std.proofs.Common.{◌≡◌, ◌+◌, ◌≤◌, ℕ, length, drop}
use Rattle.std.specs.HashMap.{spare}
use Rattle.session_model.specs.Lists.{or_else}
use Rattle.jit_dylib.specs.Rows.{row_at, fresh_rows, NamesDiffer}
use Rattle.jit_dylib.proofs.rows.put_rows.Given as goal

abbrev pub invariant-loop-at : goal.invariant-loop-at
invariant-loop-at l = record {
  rows : (name : ℕ) → or_else (row_at (fresh_rows l.next (drop l.at l.offers) (drop l.at l.live)) name) (row_at l.present.entries name)
      ≡ or_else (row_at (fresh_rows l.fn.first.0 l.offers l.live) name) (row_at l.initial.present.entries name);
  room : length l.offers ≤ spare l.present + l.at;
  numbers : l.next ≤ l.fn.first.0 + l.at;
  differ : NamesDiffer (drop l.at l.offers);
}
