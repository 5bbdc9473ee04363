use Rattle.std.proofs.Common.{◌≡◌, drop}
use Rattle.session_check.specs.Known.{names_differ}
use Rattle.session_check.proofs.known.all_differ.Given as goal

abbrev pub invariant-loop-k : goal.invariant-loop-k
invariant-loop-k l = names_differ (drop l.k l.offers) ≡ names_differ l.offers
