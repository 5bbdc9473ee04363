use Rattle.std.proofs.Common.{◌≡◌, ◌++◌, take, drop, map}
use Rattle.session_model.specs.Change.{resolved_row, resolved_unit}
use Rattle.session_plain.specs.Meant.{unit_row}
use Rattle.session_plain.proofs.emits.resolve_rows.Given as goal

abbrev pub invariant-loop-row : goal.invariant-loop-row
invariant-loop-row g l =
    let f = resolved_row l.u.0 (resolved_unit (unit_row g.U.UnitKind.meaning l.x)) in
    l.rows ≡ map f (take l.row-index l.initial.rows) ++ drop l.row-index l.initial.rows
