-- What a call of `orc gen` promises: when each answer comes, and what the sinks have then gained.
use Rattle.std.specs.Prelude.{◌≡◌, ◌≢◌, ℕ, ◌⊎◌, List, []}
use Rattle.std.specs.Io.KnownBytes.{Appends}
use Rattle.orc_io.specs.Causes.{Rose}
use Rattle.answers.specs.EndLine.{end_line_of}
use Rattle.answers.specs.Written.{AreCut, AreQuiet, Held}
use Rattle.answers.specs.declared.answer.Answer.{Answer}
use Rattle.answers.specs.declared.answer.Answer.TheVariants.{Done, NoMemory, WriteFault}
use Rattle.gen_command.specs.Found.{IsFound, IsSummary}

-- What a call was handed and what it left: how many objects the words name, out and log.
pub record Call : Type 0 where
  pub objects : ℕ
  pub out_before : Held
  pub out_after : Held
  pub log_before : Held
  pub log_after : Held

abbrev pub gen_call : ℕ → Held → Held → Held → Held → Call
gen_call objects out out' log log' = record { objects = objects; out_before = out; out_after = out'; log_before = log; log_after = log' }

-- Out has gained the text of what the session came to, and log the end line.
pub record OfSummary (jmax : ℕ) (c : Call) : Type 0 where
  pub output : List ℕ
  pub is : IsSummary jmax c.objects output
  pub written : Appends c.out_before.bytes c.out_after.bytes output
  pub logged : Appends c.log_before.bytes c.log_after.bytes (end_line_of Done)

-- after a write that failed: what was found stands on the sinks in part
pub record IsCut (jmax : ℕ) (c : Call) : Type 0 where
  pub found : Answer
  pub output : List ℕ
  pub is_found : IsFound jmax c.objects found output
  pub sinks : AreCut c.out_before c.out_after c.log_before c.log_after output (end_line_of found)

-- where memory ran out: out is as before, and log has gained the end line
pub record IsWanting (c : Call) : Type 0 where
  pub out_same : Appends c.out_before.bytes c.out_after.bytes []
  pub logged : Appends c.log_before.bytes c.log_after.bytes (end_line_of NoMemory)

-- The clauses of a call that answers so, whose session's journal has so many places.
pub record GenAnswers (jmax : ℕ) (c : Call) (answer : Answer) : Type 0 where
  -- the session's text is written, or memory ran out, or a write failed: no other answer comes, and so no full journal
  pub answers : (answer ≡ Done) ⊎ (answer ≡ NoMemory) ⊎ (answer ≡ WriteFault)
  -- a write fails only where a sink's count rose
  pub write_fault : answer ≡ WriteFault → Rose c.out_before.faults c.out_after.faults ⊎ Rose c.log_before.faults c.log_after.faults
  -- what the session came to is written
  pub summary : answer ≡ Done → OfSummary jmax c
  -- no write failed unless the answer says so
  pub quiet : answer ≢ WriteFault → AreQuiet c.out_before c.out_after c.log_before c.log_after
  -- after a write that failed each sink has gained a first part of its text, and where memory ran out log the end line alone
  pub cut : answer ≡ WriteFault → IsCut jmax c
  pub wanting : answer ≡ NoMemory → IsWanting c
