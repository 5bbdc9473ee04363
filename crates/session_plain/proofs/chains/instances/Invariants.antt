use Rattle.std.proofs.Common.{◌≡◌, ◌++◌, drop}
use Rattle.session_plain.specs.Chains.{instances_in}
use Rattle.session_plain.proofs.chains.instances.Given as goal

abbrev pub invariant-loop-found : goal.invariant-loop-found
invariant-loop-found l = l.all.items ++ instances_in (drop l.found-index l.matched) ≡ instances_in l.matched
