-- Which names of a session are known.
use Rattle.std.specs.Prelude.{ℕ, ◌<◌, ⊤, List, length, All}
use Rattle.session_model.specs.Calls.{numbered_calls}
use Rattle.session_model.specs.History.{IsLegal}
use Rattle.session_model.specs.Meaning.{Meaning}
use Rattle.session_model.specs.declared.entry.Entry.{Entry}
use Rattle.session_laws.specs.Entries.{entries}
use Rattle.journal_text.specs.Journal.{AreKnown}
use Rattle.known_names.specs.Laws.{HasKnownNames}
use Rattle.object_files.specs.Files.{AreLoaded, Told}
use Rattle.known_names.specs.Speaking.{Speaks}

-- each name of a legal history is one of the table where the calls of each seat speak of known names
abbrev pub SpokenNamesAreKnown : Type 0
SpokenNamesAreKnown = (names : List (List ℕ)) (jmax : ℕ) (h : List (Entry Meaning)) → IsLegal jmax h → ((s : ℕ) → Speaks names ⊤ (entries (numbered_calls s 1 h))) → AreKnown names h

-- The names of the units of files are those of the table that they were loaded with. A symbol without a name has number 0, so
-- that the table has one.
abbrev pub LoadedUnitsAreKnown : Type 0
LoadedUnitsAreKnown = (told : Told) (files names : List (List ℕ)) (units : List Meaning) → AreLoaded told files names units → 0 < length names → All (HasKnownNames names) units
