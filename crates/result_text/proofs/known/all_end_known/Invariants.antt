use Rattle.std.proofs.Common.{All, take}
use Rattle.result_text.specs.Known.{KnownEnd}
use Rattle.result_text.proofs.known.all_end_known.Given as goal

-- the names of the clients' ends so far have texts
abbrev pub invariant-loop-client : goal.invariant-loop-client
invariant-loop-client l = All (λ c. All (KnownEnd l.names) c.items) (take l.client-index l.ends)
