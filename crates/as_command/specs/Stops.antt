-- Why there is no object: the file has no text that is read, or the text is no object.
use Rattle.std.specs.Prelude.{◌≡◌, ℕ, List, Err, ⊤}
use Rattle.orc_io.specs.Causes.{Rose}
use Rattle.orc_io.specs.Contents.{IsLongerThan}
use Rattle.orc_io.specs.declared.limits.TheConstants.{FILE_LIMIT}
use Rattle.object_files.specs.Files.{Told}
use Rattle.rv_asm.specs.Objects.{Assembles}
use Rattle.rv_asm.specs.declared.error.AsmError.TheVariants.{BadLine}
use Rattle.answers.specs.declared.answer.Answer.{Answer}
use Rattle.answers.specs.declared.answer.Answer.TheVariants.{AsmRefused, FileFault, NoMemory, TooLong}
use Rattle.as_command.specs.Found.{IsTextOf}

-- the file couldn't be read, or is too long, or memory ran out
abbrev pub IsUnread : Told → ℕ → ℕ → List ℕ → Answer → Type 0
IsUnread told before after file (FileFault k) = (k ≡ 0) × Rose before after
IsUnread told before after file (TooLong k) = (k ≡ 0) × IsLongerThan FILE_LIMIT told file
IsUnread told before after file NoMemory = ⊤
IsUnread told before after file _ = ⊥

-- the text has a bad line, or memory ran out
abbrev pub IsUnassembled : List ℕ → Answer → Type 0
IsUnassembled text (AsmRefused line why) = Assembles text (Err (BadLine line why))
IsUnassembled text NoMemory = ⊤
IsUnassembled text _ = ⊥

-- one of these
pub data HasStopped (told : Told) (before after : ℕ) (file : List ℕ) (answer : Answer) : Type 0 where
  unread : IsUnread told before after file answer → HasStopped told before after file answer
  unassembled : (text : List ℕ) → IsTextOf told file text → IsUnassembled text answer → HasStopped told before after file answer
