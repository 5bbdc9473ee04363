-- What a script's session is, and its text.
use Rattle.std.specs.Prelude.{◌≡◌, ℕ, ◌+◌, ◌-◌, ◌^◌, min, List, [], ◌++◌, map, take, Option, IfSome, Ok}
use Rattle.orc_ids.specs.declared.lookup.Stop.{Stop}
use Rattle.orc_ids.specs.declared.lookup.Wanted.{Wanted}
use Rattle.orc_names.specs.Numbers.{KeepsNumbers}
use Rattle.session_model.specs.Meaning.{Meaning}
use Rattle.session_model.specs.declared.entry.Entry.{Entry}
use Rattle.journal_text.specs.Journal.{text_of_history}
use Rattle.object_files.specs.Files.{AreLoaded, Told}
use Rattle.session_script.specs.Scripts.{script_of}
use Rattle.session_script.specs.declared.limits.TheConstants.{SIZE_LIMIT}
use Rattle.session_script.specs.declared.script.ClientLine.{ClientLine}
use Rattle.session_script.specs.declared.script.ClientLine.TheVariants as client
use Rattle.session_script.specs.declared.script.Script.{Script}
use Rattle.script_plan.specs.Asked.{asked_script}
use Rattle.script_model.specs.Scripts.{IsScriptRun}
use Rattle.script_model.specs.declared.line_end.LineEnd.{LineEnd}
use Rattle.result_text.specs.Results.{text_of_ends}

-- The lines that watch number their notes in 32 bits.
abbrev pub counted : ℕ → ℕ
counted notes = min notes (2 ^ 32 - 1)

-- These are the bytes that a source had left, where it tells them: all of them, or the first of more than a script may have, one
-- too many.
abbrev pub AreRead : Option (List ℕ) → List ℕ → Type 0
AreRead left bytes = IfSome left (λ all. bytes ≡ take (SIZE_LIMIT + 1) all)

-- the script is that of these bytes
pub record IsScriptOn (left : Option (List ℕ)) (notes : ℕ) (script : Script) : Type 0 where
  pub bytes : List ℕ
  pub read : AreRead left bytes
  pub is : script_of notes bytes ≡ Ok script

-- A session of the script was run with so many workers; its files are objects, and their names are numbered with the script's.
pub record IsSession (jmax workers : ℕ) (told : Told) (script : Script) (names : List (List ℕ)) (history : List (Entry Meaning)) (stopped : Option Stop) (ends : List (List LineEnd)) : Type 0 where
  pub units : List Meaning
  pub loaded : AreLoaded told script.files names units
  pub named : KeepsNumbers script.names names
  pub run : IsScriptRun jmax workers (asked_script units script) stopped ends history

-- the names that a line looks up
abbrev pub wanted_by : ClientLine → List Wanted
wanted_by (client.Lookup names) = names.wanted
wanted_by (client.Watch note names) = names.wanted
wanted_by line = []

abbrev pub wanted_by_all : Script → List (List (List Wanted))
wanted_by_all script = map (map wanted_by) script.clients

-- the text of its history, and then the lines that say how each line of each client ended
abbrev pub session_text : List (List ℕ) → Script → List (Entry Meaning) → List (List LineEnd) → List ℕ
session_text names script history ends = text_of_history names history ++ text_of_ends names (wanted_by_all script) ends
