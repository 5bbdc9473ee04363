use Rattle.std.proofs.Common.{◌≡◌, ◌++◌, drop}
use Rattle.session_model.specs.Query.{addresses}
use Rattle.session_past.proofs.ends.addresses_found.Given as goal

abbrev pub invariant-loop-found : goal.invariant-loop-found
invariant-loop-found l = l.all.items ++ addresses l.rows (drop l.found-index l.matched) ≡ addresses l.rows l.matched
