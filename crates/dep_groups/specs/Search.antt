-- A search from a group through what its members reach.
use Rattle.std.specs.Prelude.{◌≡◌, ℕ, ◌+◌, ◌<◌, ◌≤◌, Bool, true, false, Option, Some, None, ◌⊎◌, List, length, slice_get, Contains, vec_len, vec_capacity}
use Rattle.dep_groups.specs.declared.graph.Graph.{Graph}
use Rattle.dep_groups.specs.declared.trail.Trail.{Trail}
use Rattle.dep_groups.specs.declared.trail.Look.{Look}
use Rattle.dep_groups.specs.declared.trail.Look.TheVariants.{Open}
use Rattle.dep_groups.specs.Places.{place, is_set, unset}
use Rattle.dep_groups.specs.Shape.{home_in, deps_in, ready_in, entries_of}
use Rattle.dep_groups.specs.Frontier.{Reaches}

-- there is room for a visit of each group that was not seen
pub record IsRoomy (trail : Trail) : Type 0 where
  pub room : vec_len trail.order + unset trail.seen.items ≤ vec_capacity trail.order

-- the visit number k is of the group number g
pub record IsVisit (order : List ℕ) (k g : ℕ) : Type 0 where
  pub is : slice_get order k ≡ Some g

-- the group number g was seen by a visit
pub record IsSeen (order : List ℕ) (g : ℕ) : Type 0 where
  pub at : ℕ
  pub is : IsVisit order at g

-- every member of the first group reaches the instance
pub record IsMet (graph : Graph) (order : List ℕ) (to : ℕ) : Type 0 where
  pub first : ℕ
  pub is : IsVisit order 0 first
  pub reaches : (i : ℕ) → home_in graph i ≡ Some first → Reaches (entries_of graph) i to
  pub below : to < length graph.homes.items

-- an instance reaches a member of the group
pub record ComesTo (graph : Graph) (i g : ℕ) : Type 0 where
  pub via : ℕ
  pub member : home_in graph via ≡ Some g
  pub reaches : Reaches (entries_of graph) i via

-- every member of the first group does
pub record IsCome (graph : Graph) (order : List ℕ) (g : ℕ) : Type 0 where
  pub first : ℕ
  pub is : IsVisit order 0 first
  pub comes : (i : ℕ) → home_in graph i ≡ Some first → ComesTo graph i g

-- a search: only groups that the first one's members reach
pub record IsTrail (graph : Graph) (seen : ℕ → Bool) (order : List ℕ) : Type 0 where
  pub came : (k g : ℕ) → IsVisit order k g → IsCome graph order g
  pub marked : (k g : ℕ) → IsVisit order k g → seen g ≡ true
  pub known : (g : ℕ) → seen g ≡ true → IsSeen order g

abbrev pub IsTrailOf : Graph → Trail → Type 0
IsTrailOf graph trail = IsTrail graph (is_set trail.seen.items) trail.order.items

-- a search went on
pub record IsMore (old new : Trail) : Type 0 where
  pub kept : (k g : ℕ) → IsVisit old.order.items k g → IsVisit new.order.items k g
  pub seen : (g : ℕ) → is_set old.seen.items g ≡ true → is_set new.seen.items g ≡ true
  pub longer : vec_len old.order ≤ vec_len new.order
  pub groups : length new.seen.items ≡ length old.seen.items
  pub capacity : vec_capacity new.order ≡ vec_capacity old.order

-- each instance's group is there, and there is a place for each instance that a group depends on
pub record IsWired (graph : Graph) (n : ℕ) : Type 0 where
  pub within : (i g : ℕ) → home_in graph i ≡ Some g → g < n
  pub deps : (g d : ℕ) → Contains (deps_in graph g) d → d < length graph.homes.items

-- the members of a group reach what it is linked to, and there is a place for that
pub record LinksLead (graph : Graph) (links : List (Option ℕ)) : Type 0 where
  pub reached : (i g d : ℕ) → home_in graph i ≡ Some g → place links g ≡ Some d → Reaches (entries_of graph) i d
  pub below : (g d : ℕ) → place links g ≡ Some d → d < length graph.homes.items

-- the group of a visit depends on the instance
pub record IsNamed (graph : Graph) (trail : Trail) (from to : ℕ) : Type 0 where
  pub visit : ℕ
  pub is : IsVisit trail.order.items from visit
  pub named : Contains (deps_in graph visit) to

-- the instance is ready, or its group was seen
abbrev pub IsLooked : Graph → Trail → ℕ → Type 0
IsLooked graph trail to =
    (ready_in graph to ≡ true) ⊎ ((g : ℕ) × (home_in graph to ≡ Some g) × (is_set trail.seen.items g ≡ true))

-- what a look shows
abbrev pub WasLooked : Graph → Trail → ℕ → Look → Type 0
WasLooked graph trail to Open = (ready_in graph to ≡ false) × (home_in graph to ≡ None)
WasLooked graph trail to look = IsLooked graph trail to

-- the search met an instance that is not emitted
pub record IsOpen (graph : Graph) (trail : Trail) (to : ℕ) : Type 0 where
  pub met : IsMet graph trail.order.items to
  pub unready : ready_in graph to ≡ false
  pub absent : home_in graph to ≡ None

-- of the dependencies of a visit's group, those from one on were looked at
pub record IsPassed (graph : Graph) (trail : Trail) (from start : ℕ) : Type 0 where
  pub passed : (g k d : ℕ) → IsVisit trail.order.items from g → start ≤ k → slice_get (deps_in graph g) k ≡ Some d → IsLooked graph trail d

-- before the cursor of a group all its dependencies are ready
pub record ArePassed (graph : Graph) (cursors : List ℕ) : Type 0 where
  pub passed : (g n k d : ℕ) → slice_get cursors g ≡ Some n → k < n → slice_get (deps_in graph g) k ≡ Some d → ready_in graph d ≡ true

-- all that the groups of the first visits depend on was looked at
pub record IsExhausted (graph : Graph) (trail : Trail) (n : ℕ) : Type 0 where
  pub looked : (k g d : ℕ) → k < n → IsVisit trail.order.items k g → Contains (deps_in graph g) d → IsLooked graph trail d
