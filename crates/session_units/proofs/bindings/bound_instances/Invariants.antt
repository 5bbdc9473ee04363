use Rattle.std.proofs.Common.{◌≡◌, ◌++◌, drop}
use Rattle.session_units.specs.Meaning.{instances}
use Rattle.session_units.proofs.bindings.bound_instances.Given as goal

abbrev pub invariant-loop-found : goal.invariant-loop-found
invariant-loop-found l = l.all.items ++ instances (drop l.found-index l.bound) ≡ instances l.bound
