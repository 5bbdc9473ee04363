-- What a failure hits, as it is found out.
use Rattle.std.specs.Prelude.{◌≡◌, ℕ, ◌<◌, ◌≤◌, ◌+◌, Bool, true, false, Some, List, [], length, slice_get, Contains, vec_len, vec_capacity}
use Rattle.orc_ids.specs.declared.ids.InstId.{InstId}
use Rattle.dep_groups.specs.declared.graph.Graph.{Graph}
use Rattle.dep_groups.specs.declared.trail.Trail.{Trail}
use Rattle.dep_groups.specs.declared.hits.Hits.{Hits}
use Rattle.dep_groups.specs.declared.resolve.Core.{Core}
use Rattle.dep_groups.specs.Places.{place, is_set, unset}
use Rattle.dep_groups.specs.Shape.{home_in, deps_in}
use Rattle.dep_groups.specs.Search.{IsVisit, IsSeen, IsRoomy}
use Rattle.dep_groups.specs.Marks.{members_of, Tells}
use Rattle.dep_groups.specs.Wake.{IsListed, IsIndexed}
use Rattle.dep_groups.specs.Frontier.{Entry, Reaches}
use Rattle.dep_groups.specs.Kept.{IsKept}

-- between failures no flag is set, and there is room for all instances
pub record IsResting (hits : Hits) : Type 0 where
  pub clear : (i : ℕ) → is_set hits.flags.items i ≡ false
  pub room : length hits.flags.items ≤ vec_capacity hits.order

-- the same list and flags, perhaps with more room
pub record IsSameHits (old new : Hits) : Type 0 where
  pub flags : new.flags.items ≡ old.flags.items
  pub order : new.order.items ≡ old.order.items

-- there is room for so many places
pub record HasHitRoom (hits : Hits) (places : ℕ) : Type 0 where
  pub flags : places ≤ vec_capacity hits.flags
  pub order : places ≤ vec_capacity hits.order

-- what a frontier keeps, with a place for each instance of its tables
pub record IsWhole (core : Core) (hits : Hits) : Type 0 where
  pub kept : IsKept core
  pub resting : IsResting hits
  pub covers : length core.graph.homes.items ≤ length hits.flags.items

-- each group knows those that are at home there, and is listed with what it depends on
pub record IsComplete (graph : Graph) : Type 0 where
  pub indexed : IsIndexed graph
  pub members : (i g : ℕ) → home_in graph i ≡ Some g → Contains (members_of graph.nodes.items g) (record { 0 = i })

-- exactly what is flagged stands in the list, once
pub record IsNoted (hits : Hits) : Type 0 where
  pub tells : Tells [] hits.flags.items [] hits.order.items
  pub room : vec_len hits.order + unset hits.flags.items ≤ vec_capacity hits.order

-- an instance reaches one that was hit
pub record IsCaused (entries : List Entry) (flags : List Bool) (i : ℕ) : Type 0 where
  pub by : ℕ
  pub hit : is_set flags by ≡ true
  pub reaches : Reaches entries i by

-- more is hit, and only what reaches something that was
pub record IsMoreHit (entries : List Entry) (old new : Hits) : Type 0 where
  pub caused : (i : ℕ) → is_set new.flags.items i ≡ true → IsCaused entries old.flags.items i
  pub stays : (i : ℕ) → is_set old.flags.items i ≡ true → is_set new.flags.items i ≡ true
  pub front : (k : ℕ) (m : InstId) → slice_get old.order.items k ≡ Some m → slice_get new.order.items k ≡ Some m
  pub places : length new.flags.items ≡ length old.flags.items
  pub capacity : vec_capacity new.order ≡ vec_capacity old.order

-- a group depends on an instance that is hit
pub record IsStruck (graph : Graph) (hits : Hits) (g : ℕ) : Type 0 where
  pub dep : ℕ
  pub named : Contains (deps_in graph g) dep
  pub hit : is_set hits.flags.items dep ≡ true

-- of the groups that a failure came to all members are hit
pub record IsSwept (graph : Graph) (trail : Trail) (hits : Hits) : Type 0 where
  pub marked : (k g : ℕ) → IsVisit trail.order.items k g → is_set trail.seen.items g ≡ true
  pub known : (g : ℕ) → is_set trail.seen.items g ≡ true → IsSeen trail.order.items g
  pub room : IsRoomy trail
  pub members : (i g : ℕ) → home_in graph i ≡ Some g → is_set trail.seen.items g ≡ true → is_set hits.flags.items i ≡ true

-- the failure came to all groups that depend on one of the first instances that are hit
pub record IsSpread (graph : Graph) (trail : Trail) (hits : Hits) (n : ℕ) : Type 0 where
  pub seen : (k g : ℕ) (m : InstId) → k < n → slice_get hits.order.items k ≡ Some m → IsListed graph.edges.items (place graph.firsts.items m.0) g → is_set trail.seen.items g ≡ true
