use Rattle.std.proofs.Common.{◌≡◌, ◌++◌, take, drop}
use Rattle.session_model.specs.Lists.{numbered}
use Rattle.session_plain.specs.Rows.{marked_row}
use Rattle.session_plain.proofs.fails.fail_rows.Given as goal

abbrev pub invariant-loop-k : goal.invariant-loop-k
invariant-loop-k l = l.rows ≡ numbered (marked_row l.unready l.reaching) 0 (take l.k l.initial.rows) ++ drop l.k l.initial.rows
