use Rattle.std.proofs.Common.{◌≡◌, take, map}
use Rattle.session_model.specs.Plain.{is_owned}
use Rattle.session_plain.proofs.rows.unit_rows.Given as goal

abbrev pub invariant-loop-row : goal.invariant-loop-row
invariant-loop-row l = l.marks.items ≡ map (is_owned l.u.0) (take l.row-index l.rows)
