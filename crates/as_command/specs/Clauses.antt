-- What a call of `orc as` promises: when each answer comes, and what the sinks have then gained.
use Rattle.std.specs.Prelude.{◌≡◌, ◌≢◌, ℕ, ◌⊎◌, List, [], Option, Some, Ok, Err}
use Rattle.std.specs.Io.KnownBytes.{Appends}
use Rattle.orc_io.specs.Causes.{Rose}
use Rattle.orc_io.specs.Contents.{IsLongerThan, IsMissing}
use Rattle.orc_io.specs.declared.limits.TheConstants.{FILE_LIMIT}
use Rattle.object_files.specs.Files.{Told}
use Rattle.elf_read.specs.declared.object.ElfObject.{ElfObject}
use Rattle.elf_write.specs.Files.{file_bytes}
use Rattle.asm_lines.specs.declared.statement.AsmWhy.{AsmWhy}
use Rattle.rv_asm.specs.Objects.{Assembles}
use Rattle.rv_asm.specs.declared.error.AsmError.TheVariants.{BadLine}
use Rattle.answers.specs.EndLine.{end_line_of}
use Rattle.answers.specs.Written.{AreCut, AreQuiet, Held}
use Rattle.answers.specs.declared.answer.Answer.{Answer}
use Rattle.answers.specs.declared.answer.Answer.TheVariants.{AsmRefused, Done, FileFault, NoMemory, TooLong, WriteFault}
use Rattle.as_command.specs.Found.{HasObject, IsFound, IsRefusedIn, IsTextOf}

-- What a call was handed and what it left: the file that the words name, the files with their count of faults, out and log.
pub record Call : Type 0 where
  pub file : List ℕ
  pub told : Told
  pub faults_before : ℕ
  pub faults_after : ℕ
  pub out_before : Held
  pub out_after : Held
  pub log_before : Held
  pub log_after : Held

abbrev pub as_call : List ℕ → Told → ℕ → ℕ → Held → Held → Held → Held → Call
as_call file told before after out out' log log' = record { file = file; told = told; faults_before = before; faults_after = after; out_before = out; out_after = out'; log_before = log; log_after = log' }

-- a write failed, or memory ran out
abbrev pub HasFailed : Answer → Type 0
HasFailed answer = (answer ≡ WriteFault) ⊎ (answer ≡ NoMemory)

-- the file couldn't be read, or one of these
abbrev pub HasFault : Answer → Type 0
HasFault answer = (answer ≡ FileFault 0) ⊎ HasFailed answer

-- no object was made
abbrev pub IsBefore : Answer → Type 0
IsBefore (FileFault k) = k ≡ 0
IsBefore (TooLong k) = k ≡ 0
IsBefore (AsmRefused _ _) = Unit {0}
IsBefore _ = ⊥

-- the files tell that the file has this text
abbrev pub TellText : Call → List ℕ → Type 0
TellText c text = (contents : List ℕ → Option (List ℕ)) × (c.told ≡ Some contents) × IsTextOf c.told c.file text

-- the files tell what they hold
abbrev pub TellFiles : Call → Type 0
TellFiles c = (contents : List ℕ → Option (List ℕ)) × (c.told ≡ Some contents)

-- this was found, before anything was written
abbrev pub Finds : Call → Answer → List ℕ → Type 0
Finds c answer output = IsFound c.file c.told c.faults_before c.faults_after answer output

-- The file's text is an object: out has gained the object's file, and log the end line.
pub record OfObject (c : Call) : Type 0 where
  pub output : List ℕ
  pub has : HasObject c.told c.file output
  pub written : Appends c.out_before.bytes c.out_after.bytes output
  pub logged : Appends c.log_before.bytes c.log_after.bytes (end_line_of Done)

-- after a write that failed: what was found stands on the sinks in part
pub record IsCut (c : Call) : Type 0 where
  pub found : Answer
  pub output : List ℕ
  pub is_found : Finds c found output
  pub sinks : AreCut c.out_before c.out_after c.log_before c.log_after output (end_line_of found)

-- where memory ran out: out is as before, and log has gained the end line
pub record IsWanting (c : Call) : Type 0 where
  pub out_same : Appends c.out_before.bytes c.out_after.bytes []
  pub logged : Appends c.log_before.bytes c.log_after.bytes (end_line_of NoMemory)

-- The clauses of a call that answers so.
pub record AsAnswers (c : Call) (answer : Answer) : Type 0 where
  -- no other command's answer comes
  pub answers : (answer ≡ Done) ⊎ IsBefore answer ⊎ HasFailed answer
  -- a fault comes only where its count rose
  pub file_fault : answer ≡ FileFault 0 → Rose c.faults_before c.faults_after
  pub write_fault : answer ≡ WriteFault → Rose c.out_before.faults c.out_after.faults ⊎ Rose c.log_before.faults c.log_after.faults
  -- where the files tell that there is no such file, reading it is a fault
  pub missing_told : TellFiles c → IsMissing c.told c.file → HasFault answer
  -- the file is too long only where it has more than 16 MiB; and where the files tell what they hold, exactly there
  pub long_only : answer ≡ TooLong 0 → IsLongerThan FILE_LIMIT c.told c.file
  pub long_told : TellFiles c → IsLongerThan FILE_LIMIT c.told c.file → (answer ≡ TooLong 0) ⊎ HasFault answer
  -- a line is refused only where it is the first bad one, for that reason; and where the files tell the text, exactly there
  pub refused_only : (line : ℕ) (why : AsmWhy) → answer ≡ AsmRefused line why → IsRefusedIn c.told c.file line why
  pub refused_told : (text : List ℕ) (line : ℕ) (why : AsmWhy) → TellText c text → Assembles text (Err (BadLine line why)) → (answer ≡ AsmRefused line why) ⊎ HasFault answer
  -- where the text is an object, its file is written
  pub object_told : (text : List ℕ) (object : ElfObject) → TellText c text → Assembles text (Ok object) → (answer ≡ Done) ⊎ HasFault answer
  pub object : answer ≡ Done → OfObject c
  -- and where the files tell the text, it is just the file of that object
  pub written_told : (text : List ℕ) (object : ElfObject) → TellText c text → Assembles text (Ok object) → answer ≡ Done → Appends c.out_before.bytes c.out_after.bytes (file_bytes object)
  -- where no object was made, out has gained nothing, and log the end line alone
  pub out_quiet : IsBefore answer → Appends c.out_before.bytes c.out_after.bytes []
  pub log_line : IsBefore answer → Appends c.log_before.bytes c.log_after.bytes (end_line_of answer)
  -- no write failed unless the answer says so
  pub quiet : answer ≢ WriteFault → AreQuiet c.out_before c.out_after c.log_before c.log_after
  -- after a write that failed each sink has gained a first part of its text, and where memory ran out log the end line alone
  pub cut : answer ≡ WriteFault → IsCut c
  pub wanting : answer ≡ NoMemory → IsWanting c
