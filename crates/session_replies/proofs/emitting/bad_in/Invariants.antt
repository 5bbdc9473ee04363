-- Those so far can be depended on.
use Rattle.std.proofs.Common.{◌≡◌, drop}
use Rattle.session_model.specs.Lists.{first_some}
use Rattle.session_replies.specs.Reasons.{bad_dep_of}
use Rattle.session_replies.proofs.emitting.bad_in.Given as goal

abbrev pub invariant-loop-i : goal.invariant-loop-i
invariant-loop-i l = first_some (bad_dep_of l.rows) (drop l.i-index l.deps) ≡ first_some (bad_dep_of l.rows) l.deps
