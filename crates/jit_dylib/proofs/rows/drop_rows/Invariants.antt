use Rattle.std.proofs.Common.{◌≡◌, ℕ, drop}
use Rattle.jit_dylib.specs.Rows.{row_at, left_row}
use Rattle.jit_dylib.proofs.rows.drop_rows.Given as goal

abbrev pub invariant-loop-name : goal.invariant-loop-name
invariant-loop-name l = (name : ℕ) → left_row (drop l.name-index l.gone) name (row_at l.present.entries name) ≡ left_row l.gone name (row_at l.initial.present.entries name)
