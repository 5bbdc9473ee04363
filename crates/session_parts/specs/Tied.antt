-- What a session keeps, and the plain session that it is.
use Rattle.std.specs.Prelude.{◌≡◌, ℕ, ◌<◌, List, length, slice_get, Some, option_map}
use Rattle.std.specs.Option.{option_map_or}
use Rattle.session_model.specs.Meaning.{Meaning}
use Rattle.session_model.specs.Plain.{Plain, GenRow}
use Rattle.session_model.specs.declared.rows.Dylib.{Dylib}
use Rattle.session_model.specs.declared.rows.InstRow.{InstRow}
use Rattle.session_model.specs.declared.rows.Job.{Job}
use Rattle.session_model.specs.declared.rows.Track.{Track}
use Rattle.code_memory.specs.declared.placement.Placement.{Placement}
use Rattle.generators.specs.declared.generator.Generator.{Generator}
use Rattle.generators.specs.Rows.{gen_row}
use Rattle.jit_dylib.specs.Laws.{IsTableOf}
use Rattle.jit_dylib.specs.Shelf.{Shelf, table_of}
use Rattle.mat_unit.specs.declared.unit.Unit.{Unit as OneUnit}
use Rattle.tracker.specs.Owners.{Owners}
use Rattle.session_parts.specs.Units.{AreUnits, AreOwners}
use Rattle.session_parts.specs.Stored.{AreStored}

-- the dylibs with their tables, the instances, the units with their jobs, the generators, what each tracker
-- owns, and code memory
pub record Kept (U : Type 0) : Type 0 where
  pub shelf : Shelf
  pub rows : List InstRow
  pub units : List (OneUnit U)
  pub jobs : List Job
  pub generators : List (Generator U)
  pub owners : Owners
  pub memory : List Placement

-- the dylibs are the session's, and each table has the present rows of its dylib
pub record AreDylibs (shelf : Shelf) (dylibs : List Dylib) (rows : List InstRow) : Type 0 where
  pub dylibs_are : shelf.dylibs ≡ dylibs
  pub count : length shelf.tables ≡ length dylibs
  pub tables : (d : ℕ) → d < length dylibs → IsTableOf rows d (table_of shelf d)

-- the tracker of a generator
abbrev pub generator_tracker : List GenRow → ℕ → ℕ
generator_tracker generators g = option_map_or (λ x. x.tracker) (slice_get generators g) 0

pub record AreGenerators {U : Type 0} (means : U → Meaning) (kept : List (Generator U)) (generators : List GenRow) (trackers : List Track) : Type 0 where
  pub count : length kept ≡ length generators
  pub rows : (g : ℕ) → slice_get generators g ≡ option_map (gen_row means (generator_tracker generators g)) (slice_get kept g)
  pub tracked : (g : ℕ) (x : GenRow) → slice_get generators g ≡ Some x → x.tracker < length trackers

-- all of it is the session's
pub record IsTied {U : Type 0} (means : U → Meaning) (k : Kept U) (m : Plain) : Type 0 where
  pub dylibs : AreDylibs k.shelf m.dylibs m.rows
  pub rows : k.rows ≡ m.rows
  pub units : AreUnits means k.units m.units m.trackers
  pub jobs : k.jobs ≡ m.jobs
  pub generators : AreGenerators means k.generators m.generators m.trackers
  pub owners : AreOwners k.owners m.trackers m.units m.generators
  pub memory : AreStored m.units k.memory
