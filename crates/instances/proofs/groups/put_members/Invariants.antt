use Rattle.std.proofs.Common.{◌+◌}
use Rattle.std.specs.Prelude.{◌==◌}
use Rattle.session_model.specs.Lists.{only_if}
use Rattle.instances.proofs.Filled.{Filling}
use Rattle.instances.proofs.groups.put_members.Given as goal

abbrev pub invariant-loop-member : goal.invariant-loop-member
invariant-loop-member l = Filling (λ m j. only_if (m.0 == l.first + j) l.deps) l.members l.member-index l.initial.table.items l.table.items
