use Rattle.std.proofs.Common.{◌+◌}
use Rattle.instances.specs.Groups.{group_deps}
use Rattle.instances.proofs.Filled.{Filling}
use Rattle.instances.proofs.groups.deps_table.Given as goal

abbrev pub invariant-loop-group : goal.invariant-loop-group
invariant-loop-group l = Filling (λ g j. group_deps (l.first + j) g) l.groups l.group-index l.initial.table.items l.table.items
