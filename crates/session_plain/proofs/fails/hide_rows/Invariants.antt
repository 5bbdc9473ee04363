use Rattle.std.proofs.Common.{◌≡◌, ◌++◌, take, drop, map}
use Rattle.session_plain.specs.Meant.{unit_row}
use Rattle.session_plain.specs.Rows.{hidden_row}
use Rattle.session_plain.proofs.fails.hide_rows.Given as goal

abbrev pub invariant-loop-row : goal.invariant-loop-row
invariant-loop-row g l =
    l.rows ≡ map (hidden_row (map (unit_row g.U.UnitKind.meaning) l.units) l.t.0) (take l.row-index l.initial.rows) ++ drop l.row-index l.initial.rows
