use Rattle.std.proofs.Common.{All, take}
use Rattle.result_text.specs.Known.{KnownEnd}
use Rattle.result_text.proofs.known.ends_known.Given as goal

-- the names of the ends so far have texts
abbrev pub invariant-loop-end : goal.invariant-loop-end
invariant-loop-end l = All (KnownEnd l.names) (take l.end-index l.ends)
