-- What the top call promises: when each answer comes, and what the sinks have then gained.
use Rattle.std.specs.Prelude.{◌≡◌, ◌≢◌, ◌<◌, ◌++◌, ℕ, ◌⊎◌, List, [], ◌∷◌, length, take, Option, Some, Result, Ok, Err}
use Rattle.std.specs.Io.KnownBytes.{Appends}
use Rattle.orc_io.specs.Causes.{Rose}
use Rattle.exec_run.specs.declared.ran.RunEnd.{RunEnd}
use Rattle.command_line.specs.Words.{Request}
use Rattle.command_line.specs.declared.error.UsageKind.{UsageKind}
use Rattle.session_model.specs.Meaning.{Meaning}
use Rattle.session_model.specs.declared.entry.Entry.{Entry}
use Rattle.session_model.specs.declared.entry.Event.TheVariants as event
use Rattle.journal_text.specs.Journal.{text_of_history}
use Rattle.object_files.specs.Files.{AreLoaded, HasStopped, Told, distinct}
use Rattle.object_files.specs.declared.error.LoadError.{LoadError}
use Rattle.run_laws.specs.declared.linked.Linked.{Linked}
use Rattle.answers.specs.Written.{AreCut, AreQuiet, Held}
use Rattle.answers.specs.Files.{IsOfContents, file_answer}
use Rattle.run_answers.specs.Answered.{IsFound}
use Rattle.run_answers.specs.ByNames.{IsProgramRun}
use Rattle.answers.specs.EndLine.{end_line_of}
use Rattle.run_answers.specs.Sessions.{IsAnswerOf, IsSession, answer_of}
use Rattle.answers.specs.declared.answer.Answer.{Answer}
use Rattle.answers.specs.declared.answer.Answer.TheVariants.{Exited, Usage, FileFault, WriteFault, ObjectRefused, TooLong, Missing, LinkRefused, DepFailed, Trap, OutOfFuel, OutputFull, JournalFull, NoMemory, DefineRefused}

-- What a call was handed and what it left: what the words ask for, the files with their count of faults, out and log.
pub record Call : Type 0 where
  pub asked : Result Request UsageKind
  pub told : Told
  pub faults_before : ℕ
  pub faults_after : ℕ
  pub out_before : Held
  pub out_after : Held
  pub log_before : Held
  pub log_after : Held

abbrev pub call_of : Result Request UsageKind → Told → ℕ → ℕ → Held → Held → Held → Held → Call
call_of asked told before after out out' log log' = record { asked = asked; told = told; faults_before = before; faults_after = after; out_before = out; out_after = out'; log_before = log; log_after = log' }

-- a write failed, or memory ran out
abbrev pub HasFailed : Answer → Type 0
HasFailed answer = (answer ≡ WriteFault) ⊎ (answer ≡ NoMemory)

-- a file couldn't be read, or one of these
abbrev pub HasFault : Answer → Type 0
HasFault answer = ((k : ℕ) × (answer ≡ FileFault k)) ⊎ HasFailed answer

-- nothing ran, and no write failed
abbrev pub IsQuiet : Answer → Type 0
IsQuiet (Exited _) = ⊥
IsQuiet (Trap _ _) = ⊥
IsQuiet OutOfFuel = ⊥
IsQuiet OutputFull = ⊥
IsQuiet WriteFault = ⊥
IsQuiet _ = Unit {0}

-- no session was begun
abbrev pub IsBefore : Answer → Type 0
IsBefore (Usage _) = Unit {0}
IsBefore (FileFault _) = Unit {0}
IsBefore (ObjectRefused _ _) = Unit {0}
IsBefore (TooLong _) = Unit {0}
IsBefore _ = ⊥

-- a session was begun, and told
abbrev pub IsInSession : Answer → Type 0
IsInSession (Exited _) = Unit {0}
IsInSession (Missing _) = Unit {0}
IsInSession (LinkRefused _ _ _) = Unit {0}
IsInSession (DepFailed _) = Unit {0}
IsInSession (Trap _ _) = Unit {0}
IsInSession OutOfFuel = Unit {0}
IsInSession OutputFull = Unit {0}
IsInSession (JournalFull _) = Unit {0}
IsInSession (DefineRefused _) = Unit {0}
IsInSession _ = ⊥

-- The words ask for a run. A session of it was begun, and its journal says the answer; out has gained the output, and log the
-- journal's text and the end line.
pub record OfSession (jmax : ℕ) (c : Call) (answer : Answer) : Type 0 where
  pub run : Request
  pub asks : c.asked ≡ Ok run
  pub names : List (List ℕ)
  pub history : List (Entry Meaning)
  pub end : Linked
  pub session : IsSession jmax c.told run names history end
  pub output : List ℕ
  pub answers : IsAnswerOf run history end answer output
  pub written : Appends c.out_before.bytes c.out_after.bytes output
  pub logged : Appends c.log_before.bytes c.log_after.bytes (text_of_history names history ++ end_line_of answer)

-- a copy of the memory is entry n
pub record IsCopyAt (history : List (Entry Meaning)) (n : ℕ) : Type 0 where
  pub copy : Entry Meaning
  pub before : List (Entry Meaning)
  pub is : take n history ≡ before ++ copy ∷ []
  pub event_is : copy.event ≡ event.Image

-- A session was begun, and what was run is its memory as it was copied at entry n: where a run of the statically linked
-- program of the files, placed as the journal has placed them by then, stays within the program, answer and output are that
-- run's.
pub record IsRunOfProgram (jmax : ℕ) (c : Call) (answer : Answer) : Type 0 where
  pub of_session : OfSession jmax c answer
  pub number : ℕ
  pub copied : IsCopyAt of_session.history number
  pub agrees : (end : RunEnd) (output : List ℕ) → IsProgramRun of_session.run.files of_session.session.loaded.graphs of_session.session.entry.0 of_session.run.fuel (take number of_session.history) end output →
      (answer ≡ answer_of end) × Appends c.out_before.bytes c.out_after.bytes output

-- after a write that failed: what was found stands on the sinks in part
pub record IsCut (jmax : ℕ) (c : Call) : Type 0 where
  pub found : Answer
  pub output : List ℕ
  pub journal : List ℕ
  pub is_found : IsFound jmax c.asked c.told c.faults_before c.faults_after found output journal
  pub sinks : AreCut c.out_before c.out_after c.log_before c.log_after output (journal ++ end_line_of found)

-- where memory ran out: out is as before, and log has gained the end line alone
pub record IsWanting (c : Call) : Type 0 where
  pub out_same : Appends c.out_before.bytes c.out_after.bytes []
  pub logged : Appends c.log_before.bytes c.log_after.bytes (end_line_of NoMemory)

-- the files tell what they hold
abbrev pub TellFiles : Call → Type 0
TellFiles c = (contents : List ℕ → Option (List ℕ)) × (c.told ≡ Some contents)

-- The clauses of a call that answers so, with a journal of at most so many entries.
pub record Answers (jmax : ℕ) (c : Call) (answer : Answer) : Type 0 where
  -- no other command's answer comes
  pub answers : IsBefore answer ⊎ IsInSession answer ⊎ HasFailed answer
  -- the words don't fit exactly where the answer says so
  pub usage_only : (kind : UsageKind) → answer ≡ Usage kind → c.asked ≡ Err kind
  pub usage_told : (kind : UsageKind) → c.asked ≡ Err kind → (answer ≡ Usage kind) ⊎ HasFailed answer
  -- a fault comes only where its count rose
  pub file_fault : (k : ℕ) → answer ≡ FileFault k → (run : Request) × (c.asked ≡ Ok run) × (k < length (distinct run.files)) × Rose c.faults_before c.faults_after
  pub write_fault : answer ≡ WriteFault → Rose c.out_before.faults c.out_after.faults ⊎ Rose c.log_before.faults c.log_after.faults
  -- a file is too long, or refused, only where it is the first that isn't taken in, for that reason; and where the files tell
  -- what they hold, exactly there
  pub file_only : (e : LoadError) → IsOfContents e → answer ≡ file_answer e → (run : Request) × (c.asked ≡ Ok run) × HasStopped c.told c.faults_before c.faults_after (distinct run.files) e
  pub file_told : (run : Request) (e : LoadError) → c.asked ≡ Ok run → TellFiles c → IsOfContents e → HasStopped c.told 0 0 (distinct run.files) e → (answer ≡ file_answer e) ⊎ HasFault answer
  -- where all files are objects, a session is begun
  pub session_told : (run : Request) (names : List (List ℕ)) (units : List Meaning) → c.asked ≡ Ok run → TellFiles c → AreLoaded c.told (distinct run.files) names units → IsInSession answer ⊎ HasFault answer
  -- the log has its journal, which says the answer
  pub session : IsInSession answer → OfSession jmax c answer
  -- where a run of the statically linked program of the files stays within it, answer and output are that run's
  pub by_names : (end : RunEnd) → answer ≡ answer_of end → IsRunOfProgram jmax c answer
  -- out has gained nothing where nothing ran, and log the end line alone where no session was begun
  pub out_quiet : IsQuiet answer → Appends c.out_before.bytes c.out_after.bytes []
  pub log_line : IsBefore answer → Appends c.log_before.bytes c.log_after.bytes (end_line_of answer)
  -- no write failed unless the answer says so
  pub quiet : answer ≢ WriteFault → AreQuiet c.out_before c.out_after c.log_before c.log_after
  -- after a write that failed each sink has gained a first part of its text, and where memory ran out log the end line alone
  pub cut : answer ≡ WriteFault → IsCut jmax c
  pub wanting : answer ≡ NoMemory → IsWanting c
