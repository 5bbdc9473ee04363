-- Those so far have none.
use Rattle.std.proofs.Common.{◌≡◌, drop}
use Rattle.session_model.specs.Lists.{first_some}
use Rattle.session_parts.specs.Addressed.{bound_address}
use Rattle.session_parts.proofs.resolving.first_address.Given as goal

abbrev pub invariant-loop-found : goal.invariant-loop-found
invariant-loop-found l = first_some bound_address (drop l.found-index l.bound) ≡ first_some bound_address l.bound
