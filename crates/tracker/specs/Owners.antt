-- What each tracker owns (ORC: `ResourceTracker`).
use Rattle.std.specs.Prelude.{ℕ, Option, Some, None, ◌≤◌, ◌<◌, zero, suc, List, [], ◌∷◌, ◌++◌, length, set, slice_get, option_map, ◌==◌, Bool, false, if◌then◌else◌}
use Rattle.std.specs.List.{list_any}
use Rattle.std.specs.Option.{option_map_or}
use Rattle.orc_ids.specs.declared.ids.DylibId.{DylibId}
use Rattle.orc_ids.specs.declared.ids.GenId.{GenId}
use Rattle.orc_ids.specs.declared.ids.TrackId.{TrackId}
use Rattle.orc_ids.specs.declared.ids.UnitId.{UnitId}
use Rattle.orc_ids.specs.declared.limits.TheConstants.{TRACKER_LIMIT}
use Rattle.tracker.specs.declared.owned.Owned.{Owned}
use Rattle.tracker.specs.declared.trackers.TrackError.{TrackError}
use Rattle.tracker.specs.declared.trackers.TrackError.TheVariants.{TooMany, NoMemory}

-- the trackers by number, each with what it owns, or gone; and the one that there is room in for one more unit,
-- until the next change
pub record Owners : Type 0 where
  pub tracks : List (Option Owned)
  pub room : Option TrackId

-- no tracker
abbrev pub nobody : Owners
nobody = record { tracks = []; room = None }

-- what is in a place, if there is such a place
abbrev pub within : {X : Type 0} → Option (Option X) → Option X
within None = None
within (Some o) = o

-- what the tracker owns, if it is there
abbrev pub owned_by : Owners → TrackId → Option Owned
owned_by m t = within (slice_get m.tracks t.0)

-- the tracker is there, and has the generator
abbrev pub owns_generator : Owners → TrackId → GenId → Bool
owns_generator m t g = option_map_or (λ o. list_any (λ (h : GenId). h.0 == g.0) o.generators) (owned_by m t) false

-- what a tracker of a dylib owns at first
abbrev pub empty : DylibId → Owned
empty d = record { dylib = d; units = []; generators = [] }

-- the next tracker is made
abbrev pub with_tracker : Owners → DylibId → Owners
with_tracker m d = record { tracks = m.tracks ++ Some (empty d) ∷ []; room = None }

-- there is room in a tracker for one more unit
abbrev pub with_room : Owners → TrackId → Owners
with_room m t = record m { room = Some t }

-- what the tracker number k owns is changed
abbrev pub change_at : ℕ → (Owned → Owned) → List (Option Owned) → List (Option Owned)
change_at k f [] = []
change_at zero f (o ∷ os) = option_map f o ∷ os
change_at (suc k) f (o ∷ os) = o ∷ change_at k f os

-- the tracker has one more unit, and the room is used
abbrev pub with_unit : Owners → TrackId → UnitId → Owners
with_unit m t u = record { tracks = change_at t.0 (λ o. record o { units = o.units ++ u ∷ [] }) m.tracks; room = None }

-- the tracker has one more generator
abbrev pub with_generator : Owners → TrackId → GenId → Owners
with_generator m t g = record { tracks = change_at t.0 (λ o. record o { generators = o.generators ++ g ∷ [] }) m.tracks; room = None }

-- the tracker is gone
abbrev pub without : Owners → TrackId → Owners
without m t = record { tracks = set m.tracks t.0 None; room = None }

-- what one of them owns belongs to the other, behind what that one has
abbrev pub and_all_of : Owned → Owned → Owned
and_all_of more o = record o { units = o.units ++ more.units; generators = o.generators ++ more.generators }

-- all that is owned by one belongs to the other, and the one is gone; into itself nothing changes
abbrev pub merged : Owners → TrackId → Owned → TrackId → Owners
merged m from more to =
    if from.0 == to.0 then m else record { tracks = change_at to.0 (and_all_of more) (set m.tracks from.0 None); room = None }

-- why no tracker was made: there are as many as there may be, or memory is wanting
abbrev pub IsRefused : Owners → TrackError → Type 0
IsRefused m TooMany = TRACKER_LIMIT ≤ length m.tracks
IsRefused m NoMemory = length m.tracks < TRACKER_LIMIT
