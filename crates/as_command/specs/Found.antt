-- What `orc as` finds, before anything is written.
use Rattle.std.specs.Prelude.{◌≡◌, ℕ, ◌≤◌, List, [], length, Ok, Err}
use Rattle.orc_io.specs.Causes.{Rose}
use Rattle.orc_io.specs.Contents.{HasContent, IsLongerThan}
use Rattle.orc_io.specs.declared.limits.TheConstants.{FILE_LIMIT}
use Rattle.object_files.specs.Files.{Told}
use Rattle.elf_read.specs.declared.object.ElfObject.{ElfObject}
use Rattle.elf_write.specs.Canonical.{Canonical}
use Rattle.elf_write.specs.Files.{file_bytes}
use Rattle.asm_lines.specs.declared.statement.AsmWhy.{AsmWhy}
use Rattle.rv_asm.specs.Objects.{Assembles}
use Rattle.rv_asm.specs.declared.error.AsmError.TheVariants.{BadLine}
use Rattle.answers.specs.declared.answer.Answer.{Answer}
use Rattle.answers.specs.declared.answer.Answer.TheVariants.{AsmRefused, Done, FileFault, NoMemory, TooLong}

-- the text of the file, as far as the files tell it: it has at most 16 MiB
pub record IsTextOf (told : Told) (file text : List ℕ) : Type 0 where
  pub content : HasContent told file text
  pub short : length text ≤ FILE_LIMIT

-- the text of the file has this first bad line
pub record IsRefusedIn (told : Told) (file : List ℕ) (line : ℕ) (why : AsmWhy) : Type 0 where
  pub text : List ℕ
  pub read : IsTextOf told file text
  pub is : Assembles text (Err (BadLine line why))

-- The text is an object, which is canonical, and this is the object's file.
pub record IsFileOf (text output : List ℕ) : Type 0 where
  pub object : ElfObject
  pub is : Assembles text (Ok object)
  pub canonical : Canonical object
  pub bytes : output ≡ file_bytes object

-- the text of the file is an object, and this is the object's file
pub record HasObject (told : Told) (file output : List ℕ) : Type 0 where
  pub text : List ℕ
  pub read : IsTextOf told file text
  pub made : IsFileOf text output

-- What was found, in this order: the file couldn't be read; it is too long; the first bad line of its text; or its object. The one file has
-- number 0. Memory may run out at any time.
pub data IsFound (file : List ℕ) (told : Told) (before after : ℕ) (answer : Answer) (output : List ℕ) : Type 0 where
  in_reading : Rose before after → answer ≡ FileFault 0 → output ≡ [] → IsFound file told before after answer output
  in_length : IsLongerThan FILE_LIMIT told file → answer ≡ TooLong 0 → output ≡ [] → IsFound file told before after answer output
  in_text : (line : ℕ) (why : AsmWhy) → IsRefusedIn told file line why → answer ≡ AsmRefused line why → output ≡ [] → IsFound file told before after answer output
  in_object : HasObject told file output → answer ≡ Done → IsFound file told before after answer output
  wanting : answer ≡ NoMemory → output ≡ [] → IsFound file told before after answer output
