-- What a session's units and trackers are, to the plain session.
use Rattle.std.specs.Prelude.{◌≡◌, ℕ, ◌<◌, Bool, true, false, ◌==◌, List, length, slice_get, Some, is_none, option_map}
use Rattle.std.specs.List.{list_any}
use Rattle.std.specs.Option.{option_map_or}
use Rattle.orc_ids.specs.declared.ids.GenId.{GenId}
use Rattle.orc_ids.specs.declared.ids.UnitId.{UnitId}
use Rattle.session_model.specs.Meaning.{Meaning}
use Rattle.session_model.specs.Plain.{UnitRow, GenRow}
use Rattle.session_model.specs.declared.rows.Track.{Track}
use Rattle.session_model.specs.declared.rows.UnitPhase.{UnitPhase}
use Rattle.session_model.specs.declared.rows.UnitPhase.TheVariants as stage
use Rattle.mat_unit.specs.declared.unit.Unit.{Unit as OneUnit}
use Rattle.mat_unit.specs.Rows.{unit_row}
use Rattle.tracker.specs.declared.owned.Owned.{Owned}
use Rattle.tracker.specs.Owners.{Owners, within}

-- the tracker of a unit
abbrev pub tracker_at : List UnitRow → ℕ → ℕ
tracker_at units u = option_map_or (λ x. x.tracker) (slice_get units u) 0

-- the dylib of a tracker
abbrev pub dylib_at : List Track → ℕ → ℕ
dylib_at trackers t = option_map_or (λ x. x.dylib) (slice_get trackers t) 0

-- its Finish was not listed yet
abbrev pub is_unlinked : UnitPhase → Bool
is_unlinked stage.Unclaimed = true
is_unlinked stage.Listed = true
is_unlinked stage.Started = true
is_unlinked stage.Placed = true
is_unlinked stage.Linking = true
is_unlinked stage.Waiting = true
is_unlinked _ = false

-- a unit has a flag for each name that it offers, and the room for the jobs that may still be listed for it
pub record IsReadied {U : Type 0} (means : U → Meaning) (x : OneUnit U) : Type 0 where
  pub flags : length x.live ≡ length (means x.unit).offers
  pub starts : x.phase ≡ stage.Unclaimed → x.can_start ≡ true
  pub finishes : is_unlinked x.phase ≡ true → x.can_finish ≡ true

-- each unit is the session's, with a tracker, of whose dylib it is
pub record AreUnits {U : Type 0} (means : U → Meaning) (kept : List (OneUnit U)) (units : List UnitRow) (trackers : List Track) : Type 0 where
  pub count : length kept ≡ length units
  pub rows : (u : ℕ) → slice_get units u ≡ option_map (unit_row means (tracker_at units u)) (slice_get kept u)
  pub tracked : (u : ℕ) (x : UnitRow) → slice_get units u ≡ Some x → x.tracker < length trackers
  pub dylibs : (u : ℕ) (x : OneUnit U) → slice_get kept u ≡ Some x → x.dylib.0 ≡ dylib_at trackers (tracker_at units u)
  pub readied : (u : ℕ) (x : OneUnit U) → slice_get kept u ≡ Some x → IsReadied means x

-- what a tracker owns: all units and generators that are its own
pub record IsOwned (units : List UnitRow) (generators : List GenRow) (t : ℕ) (o : Owned) : Type 0 where
  pub units_are : (u : ℕ) → list_any (λ (v : UnitId). v.0 == u) o.units ≡ option_map_or (λ x. x.tracker == t) (slice_get units u) false
  pub generators_are : (g : ℕ) → list_any (λ (h : GenId). h.0 == g) o.generators ≡ option_map_or (λ x. x.tracker == t) (slice_get generators g) false

-- each tracker is the session's: gone, or of its dylib with what is its own
pub record AreOwners (owners : Owners) (trackers : List Track) (units : List UnitRow) (generators : List GenRow) : Type 0 where
  pub count : length owners.tracks ≡ length trackers
  pub gone : (t : ℕ) (x : Track) → slice_get trackers t ≡ Some x → is_none (within (slice_get owners.tracks t)) ≡ x.gone
  pub dylibs : (t : ℕ) (x : Track) (o : Owned) → slice_get trackers t ≡ Some x → within (slice_get owners.tracks t) ≡ Some o → o.dylib.0 ≡ x.dylib
  pub owned : (t : ℕ) (o : Owned) → within (slice_get owners.tracks t) ≡ Some o → IsOwned units generators t o
