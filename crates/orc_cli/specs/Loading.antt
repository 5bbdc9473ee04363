-- A program that was loaded.
use Rattle.std.specs.Prelude.{◌≡◌, ℕ, List, length, map, slice_get, codes, Some}
use Rattle.orc_names.specs.Numbers.{IsNumberOf}
use Rattle.session_model.specs.Meaning.{Meaning}
use Rattle.session_units.specs.Units.{meaning_of}
use Rattle.command_line.specs.Words.{Request}
use Rattle.object_files.specs.Files.{AreLoaded, AreNumbered, Told, distinct}
use Rattle.orc_cli.specs.declared.loading.Loaded.{Loaded}

-- there is a unit for each number, and it is the one of that number
pub record AreShared (file_units : List Meaning) (files : List ℕ) (units : List Meaning) : Type 0 where
  pub count : length units ≡ length files
  pub each : (k file : ℕ) (unit : Meaning) → slice_get files k ≡ Some file → slice_get units k ≡ Some unit → slice_get file_units file ≡ Some unit

-- All files were read; the program has the units of the words, and its names stand in the table.
pub record IsLoaded (told : Told) (run : Request) (l : Loaded) : Type 0 where
  pub file_units : List Meaning
  pub loaded : AreLoaded told (distinct run.files) l.names file_units
  pub numbered : AreNumbered (distinct run.files) run.files l.files.items
  pub shared : AreShared file_units l.files.items (map meaning_of l.program.units.items)
  pub main_is : IsNumberOf l.names (codes "main") l.program.main.0
  pub entry_is : IsNumberOf l.names run.entry l.program.entry.0
