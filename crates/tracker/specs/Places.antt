-- The room for a unit: a link of its own, and a chain that has not too many.
use Rattle.std.specs.Prelude.{◌≡◌, ℕ, Option, ◌+◌, ◌≤◌, ◌<◌, ◌^◌, List, length, slice_get, IfSome}
use Rattle.orc_ids.specs.declared.ids.TrackId.{TrackId}
use Rattle.orc_ids.specs.declared.ids.UnitId.{UnitId}
use Rattle.tracker.specs.declared.owned.Owned.{Owned}
use Rattle.tracker.specs.Owners.{within}

-- one more unit can be added to a tracker
abbrev pub HasOneMore : List (Option Owned) → ℕ → Type 0
HasOneMore tracks k = IfSome (within (slice_get tracks k)) (λ o. length o.units + 1 < 2 ^ 63)

-- what two trackers own can stand in one chain
pub record CanJoin (more o : Owned) : Type 0 where
  pub units : length o.units + length more.units < 2 ^ 63
  pub generators : length o.generators + length more.generators < 2 ^ 63

-- where there is room in a tracker, there is a link for it
pub record HasPlace (tracks : List (Option Owned)) (spare : List UnitId) (room : Option TrackId) : Type 0 where
  pub few : length spare ≤ 1
  pub link : IfSome room (λ t. (length spare ≡ 1) × HasOneMore tracks t.0)
