use Rattle.std.proofs.Common.{◌≡◌, drop}
use Rattle.std.specs.List.{list_any}
use Rattle.session_check.specs.Known.{is_of_name}
use Rattle.session_check.proofs.known.is_named.Given as goal

abbrev pub invariant-loop-offered : goal.invariant-loop-offered
invariant-loop-offered l = list_any (is_of_name l.name) (drop l.offered-index l.offers) ≡ list_any (is_of_name l.name) l.offers
