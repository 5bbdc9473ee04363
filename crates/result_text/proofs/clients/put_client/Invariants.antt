use Rattle.std.proofs.Common.{◌≡◌, ◌++◌, drop}
use Rattle.result_text.specs.Results.{lines_from}
use Rattle.result_text.proofs.clients.put_client.Given as goal

abbrev pub invariant-loop-k : goal.invariant-loop-k
invariant-loop-k l = l.out.items ++ lines_from l.names l.client l.wanted l.k (drop l.k l.ends) ≡ l.fn.out.items ++ lines_from l.names l.client l.wanted 0 l.ends
