-- How long such a history is.
use Rattle.std.specs.Prelude.{◌≡◌, ℕ, ◌+◌, ◌*◌, ◌<◌, ◌≤◌, List, length, Option, Some, slice_get}
use Rattle.orc_ids.specs.declared.lookup.Stop.{Stop}
use Rattle.orc_ids.specs.declared.lookup.Stop.TheVariants.{JournalFull}
use Rattle.session_model.specs.Meaning.{Meaning}
use Rattle.session_model.specs.declared.entry.Entry.{Entry}
use Rattle.script_model.specs.declared.line_end.LineEnd.{LineEnd}
use Rattle.script_model.specs.declared.line_end.LineEnd.TheVariants.{Stopped}
use Rattle.generated_session.specs.Runs.{IsGeneratedRun}

-- twenty entries for each object, and eight
abbrev pub IsShort : Type 0
IsShort = (jmax n : ℕ) (stopped : Option Stop) (ends : List LineEnd) (h : List (Entry Meaning)) → IsGeneratedRun jmax n stopped ends h → length h ≤ 20 * n + 8

-- a journal with a place more for each object is never full: no call of the set-up or of a line is stopped for want of a place
abbrev pub IsNeverFull : Type 0
IsNeverFull = (jmax n len : ℕ) (stopped : Option Stop) (ends : List LineEnd) (h : List (Entry Meaning)) → 21 * n + 9 < jmax → IsGeneratedRun jmax n stopped ends h →
    (stopped ≡ Some (JournalFull len) → ⊥) × ((i : ℕ) → slice_get ends i ≡ Some (Stopped (JournalFull len)) → ⊥)
