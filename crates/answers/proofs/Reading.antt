-- Which files were read where something is answered.
use Rattle.std.proofs.Common.{◌≡◌, ℕ, ◌⊎◌, inl, inr, List, [], length, sym, subst}
use Rattle.std.proofs.Math.Seq.{take-length}
use Rattle.object_files.specs.Reads.{AreReadIn, AreReadUntil, Use}
use Rattle.object_files.specs.declared.error.LoadError.{LoadError}
use Rattle.object_files.specs.declared.error.LoadError.TheVariants as load
use Rattle.answers.specs.Files.{file_answer}
use Rattle.answers.specs.Reads.{AreReadFor, HoldsOfFound}
use Rattle.answers.specs.Written.{Held, IsFinished, IsWritten, whole, out_failed, log_failed}
use Rattle.answers.specs.declared.answer.Answer.{Answer}
use Rattle.answers.specs.declared.answer.Answer.TheVariants.{NoMemory, WriteFault}

-- a file that stops a call
pub read_until : (files : List (List ℕ)) (old new : Use) (answer : Answer) (e : LoadError) → answer ≡ file_answer e → AreReadUntil files old new e → AreReadFor files old new answer
read_until files old new answer (load.Fault k) is read = subst (AreReadFor files old new) (sym is) read
read_until files old new answer (load.TooLong k) is read = subst (AreReadFor files old new) (sym is) read
read_until files old new answer (load.Refused k why) is read = subst (AreReadFor files old new) (sym is) read
read_until files old new answer load.NoMemory is read = subst (AreReadFor files old new) (sym is) read

-- memory that ran out once all were read
pub read_in_vain : (files : List (List ℕ)) (old new : Use) → AreReadIn files old new → AreReadUntil files old new load.NoMemory
read_in_vain files old new read = (length files, subst (λ fs. AreReadIn fs old new) (sym (take-length files)) read)

-- what was found is what is answered, unless the writing says otherwise
written_found : (P : Answer → Type 0) (out out' log log' : Held) (f : Answer) (output journal : List ℕ) (answer : Answer) → IsWritten out out' log log' f output journal answer → P f → HoldsOfFound P answer
written_found P out out' log log' f output journal answer (whole e _ _) is = record { found = f; said = inl e; is = is }
written_found P out out' log log' f output journal answer (out_failed e _ _ _) is = record { found = f; said = inr (inl e); is = is }
written_found P out out' log log' f output journal answer (log_failed e _ _ _) is = record { found = f; said = inr (inl e); is = is }

unsaid : (out out' log log' : Held) (answer : Answer) → IsWritten out out' log log' NoMemory [] [] answer → (answer ≡ WriteFault) ⊎ (answer ≡ NoMemory)
unsaid out out' log log' answer (whole e _ _) = inr e
unsaid out out' log log' answer (out_failed e _ _ _) = inl e
unsaid out out' log log' answer (log_failed e _ _ _) = inl e

pub finished_found : (P : Answer → Type 0) (out out' log log' : Held) (f : Answer) (output journal : List ℕ) (answer : Answer) → IsFinished out out' log log' f output journal answer → P f → HoldsOfFound P answer
finished_found P out out' log log' f output journal answer (inl w) is = written_found P out out' log log' f output journal answer w is
finished_found P out out' log log' f output journal answer (inr w) is = record { found = f; said = inr (unsaid out out' log log' answer w); is = is }
