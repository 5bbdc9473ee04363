use Rattle.std.proofs.Common.{◌≡◌, drop}
use Rattle.session_model.specs.Lists.{first_some}
use Rattle.session_plain.specs.Bound.{bound_address}
use Rattle.session_plain.proofs.units.first_address.Given as goal

abbrev pub invariant-loop-found : goal.invariant-loop-found
invariant-loop-found l = first_some bound_address (drop l.found-index l.bound) ≡ first_some bound_address l.bound
