-- How the source and the files were read for what a session found.
use Rattle.std.specs.Prelude.{◌≡◌, ℕ, ◌+◌, ◌≤◌, List, [], Option}
use Rattle.std.specs.Io.KnownBytes.{IsAtEnd}
use Rattle.orc_io.specs.Causes.{Rose}
use Rattle.object_files.specs.Reads.{AreReadIn, Use}
use Rattle.session_script.specs.declared.script.Script.{Script}
use Rattle.answers.specs.declared.answer.Answer.{Answer}
use Rattle.answers.specs.declared.answer.Answer.TheVariants.{Done, JournalFull, NoMemory, ReadFault, ScriptRefused}
use Rattle.answers.specs.Reads.{AreReadFor}
use Rattle.session_command.specs.Texts.{IsScriptOn}

-- How the source's count of faults stands where this is found: one higher where the source couldn't be read, and else as before.
abbrev pub IsSourceReadFor : ℕ → ℕ → Answer → Type 0
IsSourceReadFor before after ReadFault = Rose before after × (after ≤ before + 1)
IsSourceReadFor before after _ = after ≡ before

-- Nothing is left of the source where its script's session was run, whole or until its journal was full.
abbrev pub IsSourceEndFor : Option (List ℕ) → Answer → Type 0
IsSourceEndFor left Done = IsAtEnd left
IsSourceEndFor left (JournalFull len) = IsAtEnd left
IsSourceEndFor left _ = Unit {0}

-- there may be no script
abbrev pub IsUnscripted : Answer → Type 0
IsUnscripted ReadFault = Unit {0}
IsUnscripted (ScriptRefused line why) = Unit {0}
IsUnscripted NoMemory = Unit {0}
IsUnscripted _ = ⊥

-- the files of the script on the source were read for this; or there was no script, and none was
pub data AreScriptRead (left : Option (List ℕ)) (notes : ℕ) (old new : Use) (answer : Answer) : Type 0 where
  no_script : IsUnscripted answer → AreReadIn [] old new → AreScriptRead left notes old new answer
  of_script : (script : Script) → IsScriptOn left notes script → AreReadFor script.files old new answer → AreScriptRead left notes old new answer

-- the script on the source had all its files read
pub record IsReadWhole (left : Option (List ℕ)) (notes : ℕ) (old new : Use) : Type 0 where
  pub script : Script
  pub on : IsScriptOn left notes script
  pub read : AreReadIn script.files old new
