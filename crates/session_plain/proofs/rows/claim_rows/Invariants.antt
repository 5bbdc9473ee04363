use Rattle.std.proofs.Common.{◌≡◌, ◌++◌, map, take, drop}
use Rattle.session_model.specs.Change.{claimed_row}
use Rattle.session_plain.proofs.rows.claim_rows.Given as goal

abbrev pub invariant-loop-row : goal.invariant-loop-row
invariant-loop-row l = l.rows ≡ map (claimed_row l.u.0) (take l.row-index l.initial.rows) ++ drop l.row-index l.initial.rows
