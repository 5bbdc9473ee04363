-- The program of files that were read.
use Rattle.std.proofs.Common.{◌≡◌, ℕ, ◌<◌, List, length, map, subst, ◌∙◌, arith}
use Rattle.std.specs.Prelude.{codes}
use Rattle.std.specs.List.{All}
use Rattle.std.proofs.lemmas.List.{length-map}
use Rattle.std.proofs.lemmas.Option.{slice_get-get_or, slice_get_within}
use Rattle.closure_laws.proofs.Declared.{row_below}
use Rattle.orc_names.specs.Numbers.{IsNumberOf}
use Rattle.session_model.specs.Meaning.{Meaning}
use Rattle.session_units.specs.Units.{meaning_of}
use Rattle.session_units.specs.declared.unit.ObjectUnit.{ObjectUnit}
use Rattle.command_line.specs.Words.{Request}
use Rattle.object_files.specs.Files.{AreLoaded, AreNumbered, Told, distinct}
use Rattle.orc_cli.specs.Loading.{AreShared, IsLoaded}
use Rattle.orc_cli.specs.declared.loading.Loaded.{Loaded}

-- each number is that of a file
below_files : (files words : List (List ℕ)) (numbers : List ℕ) → AreNumbered files words numbers → All (λ n. n < length files) numbers
below_files files words numbers are k d lt =
    let word = row_below words k (omega (arith, lt, are.all)) in
    slice_get_within files _ word.0 (are.are k _ (slice_get-get_or numbers k d lt) ∙ word.1)

-- so it is that of a unit
pub below_units : (told : Told) (files words names : List (List ℕ)) (units : List ObjectUnit) (numbers : List ℕ) → AreLoaded told files names (map meaning_of units) → AreNumbered files words numbers → All (λ n. n < length units) numbers
below_units told files words names units numbers loaded are k d lt = omega (arith, below_files files words numbers are k d lt, loaded.count, length-map units meaning_of)

pub is_loaded : (told : Told) (run : Request) (l : Loaded) (files : List (List ℕ)) (units : List Meaning) → files ≡ distinct run.files → AreLoaded told files l.names units → AreNumbered files run.files l.files.items → AreShared units l.files.items (map meaning_of l.program.units.items) →
    IsNumberOf l.names (codes "main") l.program.main.0 → IsNumberOf l.names run.entry l.program.entry.0 → IsLoaded told run l
is_loaded told run l files units are loaded numbered shared main entry = record {
  file_units = units;
  loaded = subst (λ fs. AreLoaded told fs l.names units) are loaded;
  numbered = subst (λ fs. AreNumbered fs run.files l.files.items) are numbered;
  shared = shared;
  main_is = main;
  entry_is = entry;
}
