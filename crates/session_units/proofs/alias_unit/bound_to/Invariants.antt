use Rattle.std.proofs.Common.{◌≡◌, ◌++◌, drop}
use Rattle.session_model.specs.Meaning.{bound_instances}
use Rattle.session_units.proofs.alias_unit.bound_to.Given as goal

abbrev pub invariant-loop-found : goal.invariant-loop-found
invariant-loop-found l = l.all.items ++ bound_instances (drop l.found-index l.bound) ≡ bound_instances l.bound
