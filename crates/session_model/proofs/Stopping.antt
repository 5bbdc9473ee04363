-- A beginning of which more was to come is one.
use Rattle.std.proofs.Common.{ℕ, List}
use Rattle.orc_ids.specs.declared.lookup.Stop.{Stop}
use Rattle.orc_ids.specs.declared.lookup.Stop.TheVariants.{JournalFull, NoMemory}
use Rattle.session_model.specs.Calls.{IsStopped}
use Rattle.session_model.specs.Meaning.{Meaning}
use Rattle.session_model.specs.declared.entry.Entry.{Entry}
use Rattle.session_model.specs.Stopped.{IsCutShort, IsStoppedBy}

module _ (whole : List (ℕ × Entry Meaning) → Type 0) (cs : List (ℕ × Entry Meaning)) where
  pub cut_begins : IsCutShort whole cs → IsStopped whole cs
  cut_begins s = record { rest = s.rest; would = s.would }

  pub stopped_begins : (st : Stop) → IsStoppedBy st whole cs → IsStopped whole cs
  stopped_begins (JournalFull len) s = cut_begins s
  stopped_begins NoMemory s = s

  pub cut_by : (st : Stop) → IsCutShort whole cs → IsStoppedBy st whole cs
  cut_by (JournalFull len) s = s
  cut_by NoMemory s = cut_begins s
