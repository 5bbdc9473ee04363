-- Where the instances, units, generators and trackers of a session belong.
use Rattle.std.specs.Prelude.{◌≡◌, ℕ, ◌<◌, true, false, List, length, slice_get, Some}
use Rattle.session_model.specs.Meaning.{Meaning}
use Rattle.session_model.specs.Plain.{Plain, UnitRow, GenRow, is_tracker_of}
use Rattle.session_model.specs.State.{state}
use Rattle.session_model.specs.History.{IsLegal}
use Rattle.session_model.specs.declared.entry.Entry.{Entry}
use Rattle.session_model.specs.declared.rows.InstRow.{InstRow}
use Rattle.session_model.specs.declared.rows.Track.{Track}

-- the tracker is there, gone or not, and is of this dylib
abbrev pub IsTrackerIn : Plain → ℕ → ℕ → Type 0
IsTrackerIn m d t = (x : Track) × (slice_get m.trackers t ≡ Some x) × (x.dylib ≡ d)

-- An instance's dylib and unit are there, and the dylib is that of the unit's tracker.
pub record RowHasHome (m : Plain) (r : InstRow) : Type 0 where
  pub dylib : r.dylib.0 < length m.dylibs
  pub unit : r.unit.0 < length m.units
  pub tracker : (x : UnitRow) → slice_get m.units r.unit.0 ≡ Some x → IsTrackerIn m r.dylib.0 x.tracker

-- A generator's dylib is there, and is that of its tracker.
pub record GeneratorHasHome (m : Plain) (g : GenRow) : Type 0 where
  pub dylib : g.dylib < length m.dylibs
  pub tracker : IsTrackerIn m g.dylib g.tracker

-- Each instance, generator, unit and tracker has its home: a unit its tracker, a tracker its dylib.
pub record HasHomes (m : Plain) : Type 0 where
  pub rows : (i : ℕ) (r : InstRow) → slice_get m.rows i ≡ Some r → RowHasHome m r
  pub generators : (k : ℕ) (g : GenRow) → slice_get m.generators k ≡ Some g → GeneratorHasHome m g
  pub units : (u : ℕ) (x : UnitRow) → slice_get m.units u ≡ Some x → (t : Track) × (slice_get m.trackers x.tracker ≡ Some t)
  pub trackers : (t : ℕ) (x : Track) → slice_get m.trackers t ≡ Some x → x.dylib < length m.dylibs

-- in every legal history
abbrev pub RowsHaveHomes : Type 0
RowsHaveHomes = (jmax : ℕ) (h : List (Entry Meaning)) → IsLegal jmax h → HasHomes (state h)

-- The tracker of each unspent generator is there, and of its dylib.
abbrev pub UnspentAreThere : Plain → Type 0
UnspentAreThere m = (g : ℕ) (x : GenRow) → slice_get m.generators g ≡ Some x → x.spent ≡ false → is_tracker_of m x.dylib x.tracker ≡ true

-- in every legal history
abbrev pub UnspentHaveTrackers : Type 0
UnspentHaveTrackers = (jmax : ℕ) (h : List (Entry Meaning)) → IsLegal jmax h → UnspentAreThere (state h)
