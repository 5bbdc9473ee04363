use Rattle.std.proofs.Common.{◌≡◌, ◌++◌, drop}
use Rattle.session_model.specs.Plain.{own_rows}
use Rattle.instances.proofs.rows.own_in.Given as goal

abbrev pub invariant-loop-i : goal.invariant-loop-i
invariant-loop-i l = l.own.items ++ own_rows l.u.0 l.i (drop l.i l.rows) ≡ own_rows l.u.0 0 l.rows
