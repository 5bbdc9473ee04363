-- The names of a script that was read.
use Rattle.std.specs.Prelude.{◌≡◌, ℕ, List, Ok}
use Rattle.session_script.specs.Scripts.{script_of}
use Rattle.session_script.specs.declared.script.Script.{Script}
use Rattle.known_names.specs.Said.{SaysItsNames}

-- each name that the script of some bytes says is one of its table
abbrev pub ScriptSaysItsNames : Type 0
ScriptSaysItsNames = (notes : ℕ) (bytes : List ℕ) (script : Script) → script_of notes bytes ≡ Ok script → SaysItsNames script
