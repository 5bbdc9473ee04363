-- What was written of an answer: its output, and then the log with the end line.
use Rattle.std.specs.Prelude.{◌≡◌, ℕ, ◌+◌, ◌≤◌, ◌⊎◌, ◌++◌, List, [], take, Option}
use Rattle.std.specs.Io.KnownBytes.{Appends}
use Rattle.orc_io.specs.Causes.{Rose}
use Rattle.answers.specs.EndLine.{end_line_of}
use Rattle.answers.specs.declared.answer.Answer.{Answer}
use Rattle.answers.specs.declared.answer.Answer.TheVariants.{NoMemory, WriteFault}

-- what a sink holds, where it tells that, and its count of faults
pub record Held : Type 0 where
  pub bytes : Option (List ℕ)
  pub faults : ℕ

abbrev pub held_by : Option (List ℕ) → ℕ → Held
held_by bytes faults = record { bytes = bytes; faults = faults }

-- the sink holds the whole text beyond what it held before, and no write on it failed
abbrev pub HoldsWhole : Held → Held → List ℕ → Type 0
HoldsWhole old new text = Appends old.bytes new.bytes text × (new.faults ≡ old.faults)

-- known bytes grow by a text's first bytes
abbrev pub AppendsPart : Option (List ℕ) → Option (List ℕ) → List ℕ → Type 0
AppendsPart old new text = (done : ℕ) × Appends old new (take done text)

-- the sink holds a text's first bytes beyond what it held before
abbrev pub HoldsPart : Held → Held → List ℕ → Type 0
HoldsPart old new text = AppendsPart old.bytes new.bytes text

-- the sink holds what it held before, and no write on it failed
abbrev pub HoldsAsBefore : Held → Held → Type 0
HoldsAsBefore old new = HoldsWhole old new []

-- one write on the sink failed, and no other
abbrev pub HasFailed : Held → Held → Type 0
HasFailed old new = Rose old.faults new.faults × (new.faults ≤ old.faults + 1)

-- one write failed. It was on out, which holds a part of its text, and log is as before; or it was on log, which holds a part, and out holds
-- its text whole.
abbrev pub AreCut : Held → Held → Held → Held → List ℕ → List ℕ → Type 0
AreCut out out' log log' output text =
    (HasFailed out out' × HoldsPart out out' output × HoldsAsBefore log log') ⊎ (HasFailed log log' × HoldsWhole out out' output × HoldsPart log log' text)

-- no write failed
pub record AreQuiet (out out' log log' : Held) : Type 0 where
  pub out_quiet : out'.faults ≡ out.faults
  pub log_quiet : log'.faults ≡ log.faults

-- What was written: the output on out, and then the journal and the end line on log. A write that fails ends it.
pub data IsWritten (out out' log log' : Held) (found : Answer) (output journal : List ℕ) (answer : Answer) : Type 0 where
  whole : answer ≡ found → HoldsWhole out out' output → HoldsWhole log log' (journal ++ end_line_of found) → IsWritten out out' log log' found output journal answer
  out_failed : answer ≡ WriteFault → HasFailed out out' → HoldsPart out out' output → HoldsAsBefore log log' → IsWritten out out' log log' found output journal answer
  log_failed : answer ≡ WriteFault → HasFailed log log' → HoldsWhole out out' output → HoldsPart log log' (journal ++ end_line_of found) → IsWritten out out' log log' found output journal answer

-- what was found was written; or memory ran out for its end line, and that was written
abbrev pub IsFinished : Held → Held → Held → Held → Answer → List ℕ → List ℕ → Answer → Type 0
IsFinished out out' log log' found output journal answer =
    IsWritten out out' log log' found output journal answer ⊎ IsWritten out out' log log' NoMemory [] [] answer
