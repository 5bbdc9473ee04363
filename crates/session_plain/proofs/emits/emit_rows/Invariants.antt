use Rattle.std.proofs.Common.{◌≡◌, ◌++◌, take, drop}
use Rattle.session_model.specs.Lists.{numbered}
use Rattle.session_model.specs.Change.{emitted_row}
use Rattle.session_plain.proofs.emits.emit_rows.Given as goal

abbrev pub invariant-loop-k : goal.invariant-loop-k
invariant-loop-k l = l.rows ≡ numbered (emitted_row l.u.0 l.groups) 0 (take l.k l.initial.rows) ++ drop l.k l.initial.rows
