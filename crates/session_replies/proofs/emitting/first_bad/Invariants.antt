-- Those of the groups so far can be depended on.
use Rattle.std.proofs.Common.{◌≡◌, drop}
use Rattle.session_model.specs.Lists.{first_some}
use Rattle.session_replies.specs.Reasons.{bad_in}
use Rattle.session_replies.proofs.emitting.first_bad.Given as goal

abbrev pub invariant-loop-group : goal.invariant-loop-group
invariant-loop-group l = first_some (bad_in l.rows) (drop l.group-index l.groups) ≡ first_some (bad_in l.rows) l.groups
