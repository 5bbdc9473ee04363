-- What `orc gen` finds, before anything is written.
use Rattle.std.specs.Prelude.{◌≡◌, ℕ, false, List, [], None}
use Rattle.std.specs.List.{list_any}
use Rattle.session_model.specs.Meaning.{Meaning}
use Rattle.session_model.specs.declared.entry.Entry.{Entry}
use Rattle.script_model.specs.declared.line_end.LineEnd.{LineEnd}
use Rattle.generated_session.specs.Counts.{counts_of, text_of}
use Rattle.generated_session.specs.Runs.{IsGeneratedRun, is_stopped}
use Rattle.answers.specs.Memory.{wanted_memory}
use Rattle.answers.specs.declared.answer.Answer.{Answer}
use Rattle.answers.specs.declared.answer.Answer.TheVariants.{Done, NoMemory}

-- The text of what a session of n objects came to: the session was had whole, no call of it was stopped, and no unit was given up for
-- want of memory.
pub record IsSummary (jmax n : ℕ) (text : List ℕ) : Type 0 where
  pub ends : List LineEnd
  pub history : List (Entry Meaning)
  pub run : IsGeneratedRun jmax n None ends history
  pub unstopped : list_any is_stopped ends ≡ false
  pub kept : wanted_memory history ≡ false
  pub counted : text ≡ text_of (counts_of n ends)

-- What was found: that text, or that memory ran out.
pub data IsFound (jmax n : ℕ) (answer : Answer) (output : List ℕ) : Type 0 where
  in_summary : IsSummary jmax n output → answer ≡ Done → IsFound jmax n answer output
  wanting : answer ≡ NoMemory → output ≡ [] → IsFound jmax n answer output
