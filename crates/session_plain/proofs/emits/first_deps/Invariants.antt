use Rattle.std.proofs.Common.{◌≡◌, drop}
use Rattle.session_model.specs.Lists.{first_some}
use Rattle.session_plain.specs.Rows.{group_deps}
use Rattle.session_plain.proofs.emits.first_deps.Given as goal

abbrev pub invariant-loop-group : goal.invariant-loop-group
invariant-loop-group l = first_some (group_deps l.i) (drop l.group-index l.groups) ≡ first_some (group_deps l.i) l.groups
