use Rattle.std.proofs.Common.{◌≡◌, ◌++◌, drop}
use Rattle.std.specs.Prelude.{map}
use Rattle.result_text.specs.Results.{clients_from, text_of_ends}
use Rattle.result_text.proofs.clients.text_of_results.Given as goal

abbrev pub invariant-loop-k : goal.invariant-loop-k
invariant-loop-k l = l.out.items ++ clients_from l.names l.wanted l.k (map (λ c. c.items) (drop l.k l.ends)) ≡ text_of_ends l.names l.wanted (map (λ c. c.items) l.ends)
