-- The plain session: lists without an index (ORC: an execution session).
use Rattle.std.specs.Prelude.{ℕ, ◌+◌, Bool, true, false, ◌&&◌, ◌==◌, nat_lt, not, List, [], ◌∷◌, length, slice_get, count_by, Option, Some, None, is_some, option_map, option_and_then, filter_map, map, if◌then◌else◌}
use Rattle.std.specs.Option.{option_map_or}
use Rattle.orc_ids.specs.declared.ids.InstId.{InstId}
use Rattle.orc_ids.specs.declared.place.Shape.{Shape}
use Rattle.session_model.specs.Meaning.{Meaning, Bindings}
use Rattle.session_model.specs.declared.rows.InstRow.{InstRow}
use Rattle.session_model.specs.declared.rows.Job.{Job}
use Rattle.session_model.specs.declared.rows.Phase.{Phase}
use Rattle.session_model.specs.declared.rows.Phase.TheVariants.{Unsearched, Resolved, Emitted, Failed}
use Rattle.session_model.specs.declared.rows.UnitPhase.{UnitPhase}
use Rattle.session_model.specs.declared.rows.UnitPhase.TheVariants as stage
pub use Rattle.session_model.specs.declared.rows.Dylib.{Dylib}
pub use Rattle.session_model.specs.declared.rows.Query.{Query}
pub use Rattle.session_model.specs.declared.rows.Range.{Range}
pub use Rattle.session_model.specs.declared.rows.Track.{Track}

-- a unit (ORC: MaterializationUnit, and MaterializationResponsibility for its seat)
pub record UnitRow : Type 0 where
  pub meaning : Meaning
  pub tracker : ℕ
  -- which of its offered names are its own
  pub live : List Bool
  pub phase : UnitPhase
  -- the seat that holds it
  pub seat : Option ℕ
  -- where it is placed; of an alias, the address that it was bound to
  pub base : Option ℕ
  -- its link query
  pub query : Option ℕ
  -- its bindings, once its job Finish was handed out with them
  pub bound : Option Bindings

-- a generator (ORC: DefinitionGenerator)
pub record GenRow : Type 0 where
  pub dylib : ℕ
  pub tracker : ℕ
  pub meaning : Meaning
  pub spent : Bool

pub record Plain : Type 0 where
  -- how many entries led here
  pub entries : ℕ
  pub dylibs : List Dylib
  pub trackers : List Track
  pub rows : List InstRow
  pub units : List UnitRow
  pub generators : List GenRow
  pub queries : List Query
  -- oldest first
  pub jobs : List Job

-- the session before its first entry
abbrev pub empty : Plain
empty = record { entries = 0; dylibs = []; trackers = []; rows = []; units = []; generators = []; queries = []; jobs = [] }

-- an alias looks its target up in a dylib of its own choice (ORC: ReExportsMaterializationUnit)
abbrev pub is_alias : UnitRow → Bool
is_alias x = is_some x.meaning.source

-- the memory that a unit needs; an alias needs none
abbrev pub unit_shape : UnitRow → Option Shape
unit_shape x = if is_alias x then None else x.meaning.shape x.live

-- the range of a unit that is placed
abbrev pub placement : UnitRow → Option Range
placement x = option_and_then (λ base. option_map (λ (shape : Shape). record { base = base; need = shape.need }) (unit_shape x)) x.base

abbrev pub placements : List UnitRow → List Range
placements units = filter_map placement units

abbrev pub has_dylib : Plain → ℕ → Bool
has_dylib m d = nat_lt d (length m.dylibs)

-- the tracker is there, and not gone
abbrev pub has_tracker : Plain → ℕ → Bool
has_tracker m t = option_map_or (λ x. not x.gone) (slice_get m.trackers t) false

-- the tracker is there, and of this dylib
abbrev pub is_tracker_of : Plain → ℕ → ℕ → Bool
is_tracker_of m d t = option_map_or (λ x. not x.gone && x.dylib == d) (slice_get m.trackers t) false

-- the dylib of a tracker
abbrev pub tracker_dylib : Plain → ℕ → ℕ
tracker_dylib m t = option_map_or (λ x. x.dylib) (slice_get m.trackers t) 0

-- the tracker of a unit
abbrev pub unit_tracker : Plain → ℕ → Option ℕ
unit_tracker m u = option_map (λ x. x.tracker) (slice_get m.units u)

-- how many units are held
abbrev pub kept : Plain → ℕ
kept m = count_by (λ x. is_some x.seat) m.units

abbrev pub is_unsearched : Phase → Bool
is_unsearched Unsearched = true
is_unsearched _ = false

abbrev pub is_failed : Phase → Bool
is_failed Failed = true
is_failed _ = false

abbrev pub is_emitted : Phase → Bool
is_emitted (Emitted address deps) = true
is_emitted _ = false

-- an instance has an address from Resolved on
abbrev pub phase_address : Phase → Option ℕ
phase_address (Resolved address) = Some address
phase_address (Emitted address deps) = Some address
phase_address _ = None

-- the dependencies recorded for an instance
abbrev pub phase_deps : Phase → List ℕ
phase_deps (Emitted address deps) = map (λ (i : InstId). i.0) deps
phase_deps _ = []

-- something of an instance's row, where there is one
abbrev pub row_test : (InstRow → Bool) → List InstRow → ℕ → Bool
row_test test rows i = option_map_or test (slice_get rows i) false

abbrev pub failed_at : List InstRow → ℕ → Bool
failed_at rows i = row_test (λ r. is_failed r.phase) rows i

abbrev pub present_at : List InstRow → ℕ → Bool
present_at rows i = row_test (λ r. r.present) rows i

abbrev pub emitted_at : List InstRow → ℕ → Bool
emitted_at rows i = row_test (λ r. is_emitted r.phase) rows i

abbrev pub unsearched_at : List InstRow → ℕ → Bool
unsearched_at rows i = row_test (λ r. is_unsearched r.phase) rows i

abbrev pub address_at : List InstRow → ℕ → Option ℕ
address_at rows i = option_map_or (λ r. phase_address r.phase) (slice_get rows i) None

-- the row is of the unit, and present in its dylib's table
abbrev pub is_owned : ℕ → InstRow → Bool
is_owned u r = r.present && r.unit.0 == u

abbrev pub is_owned_at : ℕ → List InstRow → ℕ → Bool
is_owned_at u rows i = row_test (is_owned u) rows i

-- the unit's instances, in order
abbrev pub own_rows : ℕ → ℕ → List InstRow → List InstId
own_rows u k [] = []
own_rows u k (r ∷ rs) = if is_owned u r then record { 0 = k } ∷ own_rows u (k + 1) rs else own_rows u (k + 1) rs

abbrev pub is_defunct : UnitPhase → Bool
is_defunct stage.Defunct = true
is_defunct _ = false

abbrev pub is_waiting : UnitPhase → Bool
is_waiting stage.Waiting = true
is_waiting _ = false
