use Rattle.std.proofs.Common.{◌≡◌, ◌++◌, drop}
use Rattle.result_text.specs.Results.{given_text}
use Rattle.result_text.proofs.lookups.put_given.Given as goal

abbrev pub invariant-loop-k : goal.invariant-loop-k
invariant-loop-k l = l.out.items ++ given_text l.names (drop l.k l.wanted) (drop l.k l.matches) ≡ l.fn.out.items ++ given_text l.names l.wanted l.matches
