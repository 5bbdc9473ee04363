use Rattle.std.proofs.Common.{◌≡◌, ◌++◌, take, drop}
use Rattle.session_model.specs.Lists.{numbered}
use Rattle.session_past.specs.Ends.{end_now}
use Rattle.session_plain.specs.Meant.{meant}
use Rattle.session_past.proofs.ends.end_all.Given as goal

abbrev pub invariant-loop-k : goal.invariant-loop-k
invariant-loop-k g l = l.ends ≡ numbered (end_now (meant g.U.UnitKind.meaning l.s)) 0 (take l.k l.initial.ends) ++ drop l.k l.initial.ends
