use Rattle.std.proofs.Common.{All, take}
use Rattle.result_text.specs.Known.{AreAsked}
use Rattle.result_text.proofs.known.asks_known.Given as goal

-- the names of the lines so far have texts
abbrev pub invariant-loop-line : goal.invariant-loop-line
invariant-loop-line l = All (AreAsked l.names) (take l.line-index l.wanted)
