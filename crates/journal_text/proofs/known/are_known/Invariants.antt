use Rattle.std.proofs.Common.{All, take}
use Rattle.session_model.specs.State.{plain_entry}
use Rattle.journal_text.specs.Journal.{KnownEntry}
use Rattle.journal_text.proofs.known.are_known.Given as goal

-- the names of the entries so far have texts
abbrev pub invariant-loop-entry : goal.invariant-loop-entry
invariant-loop-entry g l = All (λ e. KnownEntry l.names (plain_entry g.U.UnitKind.meaning e)) (take l.entry-index l.entries)
