-- Which files were read where something is answered.
use Rattle.std.specs.Prelude.{◌≡◌, ℕ, ◌⊎◌, List, []}
use Rattle.object_files.specs.Reads.{AreReadIn, AreReadUntil, Use}
use Rattle.object_files.specs.declared.error.LoadError.TheVariants as load
use Rattle.answers.specs.declared.answer.Answer.{Answer}
use Rattle.answers.specs.declared.answer.Answer.TheVariants.{FileFault, NoMemory, ObjectRefused, ReadFault, ScriptRefused, TooLong, Usage, WriteFault}

-- Which of a call's files were read where this is found: those up to the one that stops the call; some first ones where memory ran out; none where
-- the call was stopped before; and else all.
abbrev pub AreReadFor : List (List ℕ) → Use → Use → Answer → Type 0
AreReadFor files old new (FileFault k) = AreReadUntil files old new (load.Fault k)
AreReadFor files old new (TooLong k) = AreReadUntil files old new (load.TooLong k)
AreReadFor files old new (ObjectRefused k why) = AreReadUntil files old new (load.Refused k why)
AreReadFor files old new NoMemory = AreReadUntil files old new load.NoMemory
AreReadFor files old new (Usage kind) = AreReadIn [] old new
AreReadFor files old new ReadFault = AreReadIn [] old new
AreReadFor files old new (ScriptRefused line why) = AreReadIn [] old new
AreReadFor files old new _ = AreReadIn files old new

-- This holds of what was found. That is answered, unless a write failed, or memory ran out for its end line.
pub record HoldsOfFound (P : Answer → Type 0) (answer : Answer) : Type 0 where
  pub found : Answer
  pub said : (answer ≡ found) ⊎ (answer ≡ WriteFault) ⊎ (answer ≡ NoMemory)
  pub is : P found
