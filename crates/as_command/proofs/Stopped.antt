-- What is found where there is no object.
use Rattle.std.proofs.Common.{◌≡◌, ℕ, List, [], ◌∷◌, Result, Ok, Err, IfErr, refl, ap}
use Rattle.object_files.specs.Files.{Told}
use Rattle.object_files.specs.Reads.{AreReadIn, IsFaultAfter, Use}
use Rattle.answers.specs.Reads.{AreReadFor}
use Rattle.answers.proofs.Reading.{read_in_vain}
use Rattle.answers.specs.declared.answer.Answer.{Answer}
use Rattle.answers.specs.declared.answer.Answer.TheVariants.{AsmRefused, FileFault, NoMemory, TooLong}
use Rattle.as_command.specs.Found.{IsFound, IsTextOf, in_length, in_reading, in_text, wanting}
use Rattle.as_command.specs.Stops.{HasStopped, IsUnassembled, IsUnread, unassembled, unread}

unread_found : (told : Told) (before after : ℕ) (file : List ℕ) (answer : Answer) (output : List ℕ) → output ≡ [] → IsUnread told before after file answer → IsFound file told before after answer output
unread_found told before after file (FileFault k) output none is = in_reading is.1 (ap FileFault is.0) none
unread_found told before after file (TooLong k) output none is = in_length is.1 (ap TooLong is.0) none
unread_found told before after file NoMemory output none is = wanting refl none
unread_found told before after file _ output none is = absurd is

unassembled_found : (told : Told) (before after : ℕ) (file text : List ℕ) (answer : Answer) (output : List ℕ) → output ≡ [] → IsTextOf told file text → IsUnassembled text answer → IsFound file told before after answer output
unassembled_found told before after file text (AsmRefused line why) output none read is = in_text line why (record { text = text; read = read; is = is }) refl none
unassembled_found told before after file text NoMemory output none read is = wanting refl none
unassembled_found told before after file text _ output none read is = absurd is

pub stopped_found : (told : Told) (before after : ℕ) (file : List ℕ) (answer : Answer) (output : List ℕ) → output ≡ [] → HasStopped told before after file answer → IsFound file told before after answer output
stopped_found told before after file answer output none (unread is) = unread_found told before after file answer output none is
stopped_found told before after file answer output none (unassembled text read is) = unassembled_found told before after file text answer output none read is

-- what stops an assembly stops all
pub stopped_by : {B : Type 0} (told : Told) (before after : ℕ) (file text : List ℕ) (answer : Result B Answer) → IsTextOf told file text → IfErr answer (IsUnassembled text) → IfErr answer (HasStopped told before after file)
stopped_by told before after file text (Ok bytes) read is = tt
stopped_by told before after file text (Err answer) read is = unassembled text read is

-- what is answered where the one file was read in vain
pub first_faulted : (file : List ℕ) (old new : Use) → IsFaultAfter [] file old new → AreReadFor (file ∷ []) old new (FileFault 0)
first_faulted file old new read = (file, refl, read)

pub first_in_vain : (file : List ℕ) (old new : Use) → AreReadIn (file ∷ []) old new → AreReadFor (file ∷ []) old new NoMemory
first_in_vain file old new read = (1, read)

-- the files were read before that
unassembled_read : (files : List (List ℕ)) (old new : Use) (text : List ℕ) (answer : Answer) → AreReadIn files old new → IsUnassembled text answer → AreReadFor files old new answer
unassembled_read files old new text (AsmRefused line why) read is = read
unassembled_read files old new text NoMemory read is = read_in_vain files old new read
unassembled_read files old new text _ read is = absurd is

pub stopped_after : {B : Type 0} (files : List (List ℕ)) (old new : Use) (text : List ℕ) (answer : Result B Answer) → AreReadIn files old new → IfErr answer (IsUnassembled text) → IfErr answer (AreReadFor files old new)
stopped_after files old new text (Ok bytes) read is = tt
stopped_after files old new text (Err answer) read is = unassembled_read files old new text answer read is
