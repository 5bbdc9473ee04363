-- What a call of `orc session` promises: when each answer comes, and what the sinks have then gained.
use Rattle.std.specs.Prelude.{◌≡◌, ◌≢◌, ℕ, ◌+◌, ◌<◌, ◌⊎◌, List, [], length, map, take, Option, Some, Result, Ok, Err}
use Rattle.std.specs.Io.KnownBytes.{Appends}
use Rattle.orc_ids.specs.declared.lookup.Outcome.{Outcome}
use Rattle.orc_ids.specs.declared.lookup.Stop.{Stop}
use Rattle.orc_io.specs.Causes.{Rose}
use Rattle.rv_hart.specs.Map.{Map}
use Rattle.session_model.specs.Meaning.{Meaning}
use Rattle.session_model.specs.Owed.{IsIntact}
use Rattle.session_model.specs.State.{state}
use Rattle.session_model.specs.declared.entry.Entry.{Entry}
use Rattle.object_files.specs.Files.{AreLoaded, HasStopped, Told}
use Rattle.object_files.specs.declared.error.LoadError.{LoadError}
use Rattle.session_script.specs.Scripts.{script_of}
use Rattle.session_script.specs.declared.error.ScriptError.{ScriptError}
use Rattle.session_script.specs.declared.error.ScriptError.TheVariants.{BadLine}
use Rattle.session_script.specs.declared.error.ScriptWhy.{ScriptWhy}
use Rattle.session_script.specs.declared.limits.TheConstants.{SIZE_LIMIT}
use Rattle.session_script.specs.declared.script.Script.{Script}
use Rattle.notifiers.specs.declared.notes.Noted.{Noted}
use Rattle.notifiers.specs.declared.notes.Noted.TheVariants.{Unfired}
use Rattle.script_plan.specs.Asked.{asked_script}
use Rattle.session_promises.specs.Runs.{IsClosure}
use Rattle.script_model.specs.Promises.{KeepsPromises}
use Rattle.script_model.specs.declared.line_end.LineEnd.{LineEnd}
use Rattle.answers.specs.declared.answer.Answer.{Answer}
use Rattle.answers.specs.declared.answer.Answer.TheVariants.{Done, FileFault, JournalFull, NoMemory, ReadFault, ScriptRefused, WriteFault}
use Rattle.answers.specs.EndLine.{end_line_of}
use Rattle.answers.specs.Files.{IsOfContents, file_answer}
use Rattle.answers.specs.Reads.{HoldsOfFound}
use Rattle.answers.specs.Written.{AreCut, AreQuiet, Held}
use Rattle.session_command.specs.Ends.{session_answer}
use Rattle.session_command.specs.Found.{IsFound, IsRefusedOn}
use Rattle.session_command.specs.Notes.{AreBack}
use Rattle.session_command.specs.Reads.{IsSourceEndFor, IsSourceReadFor}
use Rattle.session_command.specs.Texts.{IsScriptOn, IsSession, counted, session_text}

-- What a call was handed and what it left: how many workers the words ask for, the notifiers, what the source has left, the files, out and
-- log, each with its count of faults.
pub record Call (N : Type 0) : Type 0 where
  pub workers : ℕ
  pub handed : List N
  pub back : List (Noted N)
  pub source_before : Held
  pub source_after : Held
  pub told : Told
  pub faults_before : ℕ
  pub faults_after : ℕ
  pub out_before : Held
  pub out_after : Held
  pub log_before : Held
  pub log_after : Held

abbrev pub session_call : {N : Type 0} → ℕ → List N → List (Noted N) → Held → Held → Told → ℕ → ℕ → Held → Held → Held → Held → Call N
session_call workers handed back source source' told before after out out' log log' = record {
  workers = workers;
  handed = handed;
  back = back;
  source_before = source;
  source_after = source';
  told = told;
  faults_before = before;
  faults_after = after;
  out_before = out;
  out_after = out';
  log_before = log;
  log_after = log';
}

-- a write failed, or memory ran out
abbrev pub HasFailed : Answer → Type 0
HasFailed answer = (answer ≡ WriteFault) ⊎ (answer ≡ NoMemory)

-- the source couldn't be read, or one of these
abbrev pub HasReadFault : Answer → Type 0
HasReadFault answer = (answer ≡ ReadFault) ⊎ HasFailed answer

-- a file couldn't be read, or one of these
abbrev pub HasFault : Answer → Type 0
HasFault answer = ((k : ℕ) × (answer ≡ FileFault k)) ⊎ HasReadFault answer

-- a session was run whole, or until its journal was full
abbrev pub IsOfSession : Answer → Type 0
IsOfSession answer = (answer ≡ Done) ⊎ ((len : ℕ) × (answer ≡ JournalFull len))

-- no session was run
abbrev pub IsBefore : Answer → Type 0
IsBefore ReadFault = Unit {0}
IsBefore (ScriptRefused _ _) = Unit {0}
IsBefore (FileFault _) = Unit {0}
IsBefore answer = (e : LoadError) × IsOfContents e × (answer ≡ file_answer e)

module _ {N : Type 0} where
  -- a script for as many notes as a call was handed, on its source
  abbrev pub IsAsked : Call N → Script → Type 0
  IsAsked c script = IsScriptOn c.source_before.bytes (counted (length c.handed)) script

  -- what the source's text is to such a script
  abbrev pub script_in : Call N → List ℕ → Result Script ScriptError
  script_in c bytes = script_of (counted (length c.handed)) (take (SIZE_LIMIT + 1) bytes)

module _ {N : Type 0} (heard : N → Option Outcome) (number : N → ℕ) (jmax : ℕ) (c : Call N) where
  -- this was found, before anything was written
  abbrev pub Finds : Answer → List ℕ → Type 0
  Finds answer output = IsFound heard number jmax c.workers c.handed c.source_before.bytes c.source_before.faults c.source_after.faults c.told c.faults_before c.faults_after answer output c.back

  -- A session of the script on the source was run, which keeps its promises to the clients, and in which each instance that is intact
  -- after an entry has a closure; and it says the answer. Out has gained its text,
  -- and log the end line; and the notifiers have heard how it ended their queries.
  pub record OfSession (answer : Answer) : Type 0 where
    pub script : Script
    pub asked : IsAsked c script
    pub names : List (List ℕ)
    pub history : List (Entry Meaning)
    pub stopped : Option Stop
    pub ends : List (List LineEnd)
    pub session : IsSession jmax c.workers c.told script names history stopped ends
    pub promises : KeepsPromises (asked_script session.units script) ends history
    pub closures : (n i : ℕ) → IsIntact (state (take n history)).rows i → (closure : Map) × IsClosure (state (take n history)) i closure
    pub answers : answer ≡ session_answer history stopped ends
    pub written : Appends c.out_before.bytes c.out_after.bytes (session_text names script history ends)
    pub logged : Appends c.log_before.bytes c.log_after.bytes (end_line_of answer)
    pub notes : AreBack heard number history (length c.handed) c.back

  -- after a write that failed: what was found stands on the sinks in part
  pub record IsCut : Type 0 where
    pub found : Answer
    pub output : List ℕ
    pub is_found : Finds found output
    pub sinks : AreCut c.out_before c.out_after c.log_before c.log_after output (end_line_of found)

  -- where memory ran out: out has gained the text of a session in which that was found, or nothing, and log the end line
  pub record IsWanting : Type 0 where
    pub output : List ℕ
    pub is_found : Finds NoMemory output
    pub written : Appends c.out_before.bytes c.out_after.bytes output
    pub logged : Appends c.log_before.bytes c.log_after.bytes (end_line_of NoMemory)

  -- The clauses of a call that answers so, with a journal of at most so many entries.
  pub record SessionAnswers (answer : Answer) : Type 0 where
    -- no other command's answer comes
    pub answers : IsOfSession answer ⊎ IsBefore answer ⊎ HasFailed answer
    -- a fault comes only where its count rose, and that of a file only where the script names so many
    pub read_fault : answer ≡ ReadFault → Rose c.source_before.faults c.source_after.faults
    pub file_fault : (k : ℕ) → answer ≡ FileFault k → (script : Script) × IsAsked c script × (k < length script.files) × Rose c.faults_before c.faults_after
    pub write_fault : answer ≡ WriteFault → Rose c.out_before.faults c.out_after.faults ⊎ Rose c.log_before.faults c.log_after.faults
    -- the source has counted one fault more where that it couldn't be read was found, and else none
    pub source : HoldsOfFound (IsSourceReadFor c.source_before.faults c.source_after.faults) answer
    -- nothing is left of it where a session was found to be run, whole or until its journal was full
    pub source_end : HoldsOfFound (IsSourceEndFor c.source_after.bytes) answer
    -- a line is refused only where it is the first bad one, for that reason; and where the source tells its bytes, exactly there
    pub script_only : (line : ℕ) (why : ScriptWhy) → answer ≡ ScriptRefused line why → IsRefusedOn c.source_before.bytes (counted (length c.handed)) line why
    pub script_told : (bytes : List ℕ) (line : ℕ) (why : ScriptWhy) → c.source_before.bytes ≡ Some bytes → script_in c bytes ≡ Err (BadLine line why) → (answer ≡ ScriptRefused line why) ⊎ HasReadFault answer
    -- a file is too long, or refused, only where it is the first of the script's that isn't taken in, for that reason
    pub file_only : (e : LoadError) → IsOfContents e → answer ≡ file_answer e → (script : Script) × IsAsked c script × HasStopped c.told c.faults_before c.faults_after script.files e
    -- and where source and files tell what they hold, exactly there
    pub file_told : (bytes : List ℕ) (script : Script) (e : LoadError) → c.source_before.bytes ≡ Some bytes → script_in c bytes ≡ Ok script → (contents : List ℕ → Option (List ℕ)) → c.told ≡ Some contents → IsOfContents e → HasStopped c.told 0 0 script.files e →
        (answer ≡ file_answer e) ⊎ HasFault answer
    -- where the script is one, and all its files are objects, a session is run
    pub session_told : (bytes : List ℕ) (script : Script) (names : List (List ℕ)) (units : List Meaning) → c.source_before.bytes ≡ Some bytes → script_in c bytes ≡ Ok script → (contents : List ℕ → Option (List ℕ)) → c.told ≡ Some contents →
        AreLoaded c.told script.files names units → IsOfSession answer ⊎ HasFault answer
    -- what is written is the text of that session, which says the answer
    pub session : IsOfSession answer → OfSession answer
    -- where no session was run, out has gained nothing, and log the end line; and all notifiers came back as they were
    pub out_quiet : IsBefore answer → Appends c.out_before.bytes c.out_after.bytes []
    pub log_line : IsBefore answer → Appends c.log_before.bytes c.log_after.bytes (end_line_of answer)
    pub untold : IsBefore answer → c.back ≡ map Unfired c.handed
    -- no write failed unless the answer says so
    pub quiet : answer ≢ WriteFault → AreQuiet c.out_before c.out_after c.log_before c.log_after
    -- after a write that failed each sink has gained a first part of its text; where memory ran out, out has that of a session, or nothing
    pub cut : answer ≡ WriteFault → IsCut
    pub wanting : answer ≡ NoMemory → IsWanting
