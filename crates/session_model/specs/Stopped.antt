-- The calls of a line of which one was stopped.
use Rattle.std.specs.Prelude.{◌≡◌, ℕ, List, [], ◌++◌}
use Rattle.orc_ids.specs.declared.lookup.Stop.{Stop}
use Rattle.orc_ids.specs.declared.lookup.Stop.TheVariants.{JournalFull, NoMemory}
use Rattle.session_model.specs.Calls.{IsStopped}
use Rattle.session_model.specs.Meaning.{Meaning}
use Rattle.session_model.specs.declared.entry.Entry.{Entry}

-- they are a beginning of such a list, of which more was to come
pub record IsCutShort (whole : List (ℕ × Entry Meaning) → Type 0) (cs : List (ℕ × Entry Meaning)) : Type 0 where
  pub rest : List (ℕ × Entry Meaning)
  pub would : whole (cs ++ rest)
  pub more : rest ≡ [] → ⊥

-- Where a call found no place in the journal, that call was to come. Where memory ran out, that may have been after the last one.
abbrev pub IsStoppedBy : Stop → (List (ℕ × Entry Meaning) → Type 0) → List (ℕ × Entry Meaning) → Type 0
IsStoppedBy (JournalFull len) whole cs = IsCutShort whole cs
IsStoppedBy NoMemory whole cs = IsStopped whole cs
