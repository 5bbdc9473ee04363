use Rattle.std.proofs.Common.{All, take}
use Rattle.result_text.specs.Known.{AreAsked}
use Rattle.result_text.proofs.known.all_ask_known.Given as goal

-- the names of the clients so far have texts
abbrev pub invariant-loop-client : goal.invariant-loop-client
invariant-loop-client l = All (All (AreAsked l.names)) (take l.client-index l.wanted)
