use Rattle.std.proofs.Common.{◌≡◌, ◌++◌, drop}
use Rattle.session_units.specs.Meaning.{addresses}
use Rattle.session_units.proofs.bindings.bound_addresses.Given as goal

abbrev pub invariant-loop-found : goal.invariant-loop-found
invariant-loop-found l = l.all.items ++ addresses (drop l.found-index l.bound) ≡ addresses l.bound
