use Rattle.std.proofs.Common.{◌≡◌, ◌++◌, take, drop}
use Rattle.session_model.specs.Lists.{numbered}
use Rattle.session_model.specs.Change.{unreplaced_row}
use Rattle.session_plain.proofs.defining.hide_replaced.Given as goal

abbrev pub invariant-loop-k : goal.invariant-loop-k
invariant-loop-k l = l.rows ≡ numbered (unreplaced_row l.found) 0 (take l.k l.initial.rows) ++ drop l.k l.initial.rows
