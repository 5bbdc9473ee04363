-- What a script was loaded with, or why it wasn't.
use Rattle.std.specs.Prelude.{◌≡◌, ℕ, List, map, Option}
use Rattle.orc_names.specs.Numbers.{KeepsNumbers}
use Rattle.object_files.specs.Files.{AreLoaded, HasStopped, Told}
use Rattle.object_files.specs.declared.error.LoadError.{LoadError}
use Rattle.session_script.specs.WellFormed.{IsWellFormed}
use Rattle.session_script.specs.declared.script.Script.{Script}
use Rattle.session_units.specs.Units.{meaning_of}
use Rattle.answers.specs.Files.{file_answer}
use Rattle.answers.specs.declared.answer.Answer.{Answer}
use Rattle.session_command.specs.Found.{IsUnasked}
use Rattle.session_command.specs.Texts.{IsScriptOn}
use Rattle.session_command.specs.declared.command.Loaded.{Loaded}

-- The script with the names of its files' symbols behind its own, and a unit for each file.
pub record HasUnits (told : Told) (asked : Script) (loaded : Loaded) : Type 0 where
  pub script : loaded.script ≡ record asked { names = loaded.script.names }
  pub named : KeepsNumbers asked.names loaded.script.names
  pub units : AreLoaded told asked.files loaded.script.names (map meaning_of loaded.units.items)

-- the script on the source was loaded
pub record IsLoaded (left : Option (List ℕ)) (notes : ℕ) (told : Told) (loaded : Loaded) : Type 0 where
  pub asked : Script
  pub is : IsScriptOn left notes asked
  pub well_formed : IsWellFormed notes asked
  pub has : HasUnits told asked loaded

-- a file of the script isn't taken in
pub record HasStoppedAt (told : Told) (before after : ℕ) (script : Script) (answer : Answer) : Type 0 where
  pub error : LoadError
  pub stopped : HasStopped told before after script.files error
  pub answers : answer ≡ file_answer error

-- the source has no script, or a file of it isn't taken in
pub data HasStoppedIn (left : Option (List ℕ)) (notes unread read : ℕ) (told : Told) (before after : ℕ) (answer : Answer) : Type 0 where
  unasked : IsUnasked left notes unread read answer → HasStoppedIn left notes unread read told before after answer
  in_files : (script : Script) → IsScriptOn left notes script → HasStoppedAt told before after script answer → HasStoppedIn left notes unread read told before after answer
