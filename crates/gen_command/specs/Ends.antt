-- How a session ended, and what is told of it.
use Rattle.std.specs.Prelude.{◌≡◌, ◌⊎◌, ℕ, false, List, [], ◌∷◌, Option, None, Some}
use Rattle.orc_ids.specs.declared.lookup.Stop.{Stop}
use Rattle.orc_ids.specs.declared.lookup.Stop.TheVariants.{NoMemory}
use Rattle.session_model.specs.Meaning.{Meaning}
use Rattle.session_model.specs.declared.entry.Entry.{Entry}
use Rattle.script_model.specs.declared.line_end.LineEnd.{LineEnd}
use Rattle.script_model.specs.declared.line_end.LineEnd.TheVariants.{Stopped}
use Rattle.generated_session.specs.Counts.{counts_of, text_of}
use Rattle.generated_session.specs.Runs.{IsGeneratedRun}
use Rattle.answers.specs.Memory.{wanted_memory}

-- the session of n objects was run so, by its one client
abbrev pub IsRun : ℕ → ℕ → Option Stop → List (List LineEnd) → List (Entry Meaning) → Type 0
IsRun jmax n stopped ends h = (its : List LineEnd) × (ends ≡ its ∷ []) × IsGeneratedRun jmax n stopped its h

-- how the lines of the first client ended
abbrev pub first_ends : List (List LineEnd) → List LineEnd
first_ends [] = []
first_ends (ends ∷ others) = ends

-- ---- where it was stopped

abbrev pub stop_of : LineEnd → Option Stop
stop_of (Stopped st) = Some st
stop_of end = None

abbrev pub or_else : Option Stop → Option Stop → Option Stop
or_else (Some st) other = Some st
or_else None other = other

-- the stop of the first line that was stopped
abbrev pub first_stop : List LineEnd → Option Stop
first_stop [] = None
first_stop (end ∷ ends) = or_else (stop_of end) (first_stop ends)

-- the stop of the set-up, or of the first line that was stopped
abbrev pub stop_in : Option Stop → List LineEnd → Option Stop
stop_in set_up ends = or_else set_up (first_stop ends)

-- ---- what is told

-- Nothing was stopped and no unit was given up for want of memory, and this is the text of what it came to.
pub record IsTold (n : ℕ) (h : List (Entry Meaning)) (set_up : Option Stop) (ends : List LineEnd) (text : List ℕ) : Type 0 where
  pub unstopped : stop_in set_up ends ≡ None
  pub kept : wanted_memory h ≡ false
  pub counted : text ≡ text_of (counts_of n ends)

-- memory ran out, or it was stopped so
abbrev pub HasStopped : Option Stop → List LineEnd → Stop → Type 0
HasStopped set_up ends st = (st ≡ NoMemory) ⊎ (stop_in set_up ends ≡ Some st)
