use Rattle.std.proofs.Common.{All, take}
use Rattle.orc_ids.specs.declared.lookup.Wanted.{Wanted}
use Rattle.journal_text.specs.Parts.{IsGiven}
use Rattle.journal_text.proofs.known.are_given.Given as goal

-- the names so far have texts
abbrev pub invariant-loop-w : goal.invariant-loop-w
invariant-loop-w l = All (λ (w : Wanted). IsGiven l.names w.name) (take l.w-index l.wanted)
