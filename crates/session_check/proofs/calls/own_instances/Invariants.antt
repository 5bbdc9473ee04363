use Rattle.std.proofs.Common.{◌≡◌, ◌++◌, drop}
use Rattle.session_model.specs.Plain.{own_rows}
use Rattle.session_check.proofs.calls.own_instances.Given as goal

abbrev pub invariant-loop-k : goal.invariant-loop-k
invariant-loop-k l = l.own.items ++ own_rows l.u.0 l.k (drop l.k l.rows) ≡ own_rows l.u.0 0 l.rows
