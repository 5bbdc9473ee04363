-- Which files were read where no session was begun.
use Rattle.std.proofs.Common.{◌≡◌, ℕ, List, length, Option, Result, IfErr, sym, subst}
use Rattle.std.proofs.Math.Seq.{take-length}
use Rattle.command_line.specs.declared.error.UsageKind.{UsageKind}
use Rattle.object_files.specs.Reads.{AreReadIn, AreReadUntil, Use}
use Rattle.object_files.specs.declared.error.LoadError.{LoadError}
use Rattle.object_files.specs.declared.error.LoadError.TheVariants as load
use Rattle.object_files.proofs.Readings.{memory_stops_reading, none_read}
use Rattle.answers.specs.Reads.{AreReadFor}
use Rattle.answers.specs.declared.answer.Answer.{Answer}
use Rattle.answers.specs.declared.answer.Answer.TheVariants.{NoMemory, Usage}
use Rattle.session_command.specs.Reads.{AreScriptRead, IsUnscripted, no_script}

-- the files by another account of them
pub read_as : (files others : List (List ℕ)) (old new : Use) → files ≡ others → AreReadIn files old new → AreReadIn others old new
read_as files others old new is read = subst (λ fs. AreReadIn fs old new) is read

-- memory ran out once all were read
pub memory_after_all : {X : Type 0} (files : List (List ℕ)) (old new : Use) (r : Result X LoadError) → AreReadIn files old new → IfErr r (λ e. e ≡ load.NoMemory) → IfErr r (λ e. AreReadUntil files old new e)
memory_after_all files old new r read wanting =
    memory_stops_reading files (length files) old new r (subst (λ fs. AreReadIn fs old new) (sym (take-length files)) read) wanting

-- none was read where the words don't fit, or memory ran out before
pub unasked_read : (files : List (List ℕ)) (kind : UsageKind) (at : Use) (answer : Answer) → answer ≡ Usage kind → AreReadFor files at at answer
unasked_read files kind at answer is = subst (AreReadFor files at at) (sym is) (none_read at)

pub memory_first : (files : List (List ℕ)) (at : Use) (answer : Answer) → answer ≡ NoMemory → AreReadFor files at at answer
memory_first files at answer is = subst (AreReadFor files at at) (sym is) (0, none_read at)

pub memory_before_script : (left : Option (List ℕ)) (notes : ℕ) (at : Use) (answer : Answer) → answer ≡ NoMemory → AreScriptRead left notes at at answer
memory_before_script left notes at answer is = no_script (subst IsUnscripted (sym is) tt) (none_read at)
