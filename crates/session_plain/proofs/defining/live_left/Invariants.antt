use Rattle.std.proofs.Common.{◌≡◌, ◌++◌, drop}
use Rattle.session_model.specs.Lists.{numbered}
use Rattle.session_plain.specs.Defines.{left_flag}
use Rattle.session_plain.proofs.defining.live_left.Given as goal

abbrev pub invariant-loop-k : goal.invariant-loop-k
invariant-loop-k l = l.left.items ++ numbered (left_flag l.rows l.found l.u) l.k (drop l.k l.live) ≡ numbered (left_flag l.rows l.found l.u) 0 l.live
