-- The names that a script's session says.
use Rattle.std.specs.Prelude.{◌≡◌, ℕ, List, Option, Ok}
use Rattle.orc_ids.specs.declared.lookup.Stop.{Stop}
use Rattle.session_model.specs.Meaning.{Meaning}
use Rattle.session_model.specs.declared.entry.Entry.{Entry}
use Rattle.journal_text.specs.Journal.{AreKnown}
use Rattle.object_files.specs.Files.{Told}
use Rattle.session_script.specs.Scripts.{script_of}
use Rattle.session_script.specs.declared.script.Script.{Script}
use Rattle.script_model.specs.declared.line_end.LineEnd.{LineEnd}
use Rattle.result_text.specs.Known.{AreKnownEnds}
use Rattle.session_command.specs.Texts.{IsSession, wanted_by_all}

-- In the session of a script that was read, each name of the history is one of the table, and so is each that a line looks up
-- and each that the end of one speaks of.
abbrev pub SessionSaysItsNames : Type 0
SessionSaysItsNames = (jmax workers notes : ℕ) (bytes : List ℕ) (told : Told) (script : Script) (names : List (List ℕ)) (history : List (Entry Meaning)) (stopped : Option Stop) (ends : List (List LineEnd)) →
    script_of notes bytes ≡ Ok script → IsSession jmax workers told script names history stopped ends →
    AreKnown names history × AreKnownEnds names (wanted_by_all script) ends
