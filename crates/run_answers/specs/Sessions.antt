-- The session of a run, and the answer that its journal says.
use Rattle.std.specs.Prelude.{◌≡◌, ◌≢◌, ◌<◌, ⊤, ℕ, List, [], length, slice_get, codes, Some}
use Rattle.orc_ids.specs.declared.ids.NameId.{NameId}
use Rattle.orc_ids.specs.declared.lookup.Stop.TheVariants as stop
use Rattle.orc_names.specs.Numbers.{IsNumberOf}
use Rattle.orc_ids.specs.declared.ids.InstId.{InstId}
use Rattle.code_memory.specs.Mapped.{byte_at}
use Rattle.code_memory.specs.declared.image.Segment.{Segment}
use Rattle.exec_run.specs.Run.{RunsTo}
use Rattle.exec_run.specs.declared.ran.RunEnd.{RunEnd}
use Rattle.exec_run.specs.declared.ran.RunEnd.TheVariants.{Exited as HasExited, Trap as HasTrapped, OutOfFuel as IsOutOfFuel, OutputFull as IsFull}
use Rattle.session_model.specs.Meaning.{Meaning}
use Rattle.session_model.specs.declared.entry.Entry.{Entry}
use Rattle.command_line.specs.Words.{Request}
use Rattle.object_files.specs.Files.{AreLoaded, Told, distinct}
use Rattle.run_laws.specs.Ended.{IsRun}
use Rattle.run_laws.specs.declared.linked.Linked.{Linked}
use Rattle.run_laws.specs.declared.linked.Linked.TheVariants as linked
use Rattle.run_answers.specs.Lost.{lost_answer}
use Rattle.answers.specs.declared.answer.Answer.{Answer}
use Rattle.answers.specs.declared.answer.Answer.TheVariants.{Exited, Missing, Trap, OutOfFuel, OutputFull, JournalFull, NoMemory, DefineRefused}

-- the file of a word: its place among the distinct words
abbrev pub IsFileOf : List (List ℕ) → ℕ → ℕ → Type 0
IsFileOf words word file = (name : List ℕ) × (slice_get words word ≡ Some name) × (slice_get (distinct words) file ≡ Some name)

-- there is one for each word, which is that of its file
pub record AreOfWords {X : Type 0} (words : List (List ℕ)) (of_files of_words : List X) : Type 0 where
  pub count : length of_words ≡ length words
  pub each : (word : ℕ) (x : X) → slice_get of_words word ≡ Some x → (file : ℕ) × IsFileOf words word file × (slice_get of_files file ≡ Some x)

-- The history is that of the run that is asked for: of the objects that the files hold, in the order of the words, in a dylib
-- `main`, from the entry that is asked for, with as many workers. The names stand in a table.
pub record IsSession (jmax : ℕ) (told : Told) (run : Request) (names : List (List ℕ)) (h : List (Entry Meaning)) (end : Linked) : Type 0 where
  pub file_units : List Meaning
  pub loaded : AreLoaded told (distinct run.files) names file_units
  pub units : List Meaning
  pub of_words : AreOfWords run.files file_units units
  pub main : NameId
  pub main_is : IsNumberOf names (codes "main") main.0
  pub entry : NameId
  pub entry_is : IsNumberOf names run.entry entry.0
  pub is_run : IsRun jmax run.workers main entry units h end

-- the answer that a run's end is
abbrev pub answer_of : RunEnd → Answer
answer_of (HasExited code) = Exited code
answer_of (HasTrapped pc cause) = Trap pc cause
answer_of IsOutOfFuel = OutOfFuel
answer_of IsFull = OutputFull

-- the run of a memory from an address answers so, with this output
abbrev pub HasRun : ℕ → List Segment → ℕ → Answer → List ℕ → Type 0
HasRun address memory fuel answer output = (end : RunEnd) × RunsTo (byte_at memory) address [] fuel end output × (answer ≡ answer_of end)

-- a refused definition is that of a word
abbrev pub IsWordOf : List ℕ → Linked → Type 0
IsWordOf files (linked.Refused word) = word < length files
IsWordOf files end = ⊤

-- What the end of the program's session answers, with which output: the program was run from the entry's address, on the
-- memory at that time; or it has no entry; or the entry couldn't be made ready; or the definition of a word's unit was
-- refused; or the journal was full.
pub data IsAnswerOf (run : Request) (h : List (Entry Meaning)) : Linked → Answer → List ℕ → Type 0 where
  Ran : (address : ℕ) (memory : List Segment) (answer : Answer) (output : List ℕ) → HasRun address memory run.fuel answer output → IsAnswerOf run h (linked.Found address memory) answer output
  NoEntry : IsAnswerOf run h linked.Missing (Missing run.entry) []
  NotReady : (i : InstId) → lost_answer h i ≢ NoMemory → IsAnswerOf run h (linked.Failed i) (lost_answer h i) []
  NotDefined : (word file : ℕ) → IsFileOf run.files word file → IsAnswerOf run h (linked.Refused word) (DefineRefused file) []
  NoPlace : (len : ℕ) → IsAnswerOf run h (linked.Stopped (stop.JournalFull len)) (JournalFull len) []
