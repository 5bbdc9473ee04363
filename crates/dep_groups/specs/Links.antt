-- The links of groups: each leads to an instance that the group waits for, and stands in that instance's queue.
use Rattle.std.specs.Prelude.{◌≡◌, ℕ, ◌<◌, ◌+◌, ◌==◌, if◌then◌else◌, false, Option, Some, None, ◌⊎◌, List, [], ◌∷◌, length}
use Rattle.dep_groups.specs.declared.graph.Graph.{Graph}
use Rattle.dep_groups.specs.Places.{place}
use Rattle.dep_groups.specs.Shape.{home_in, ready_in, entries_of}
use Rattle.dep_groups.specs.Frontier.{Reaches}

-- one step along the links, from an instance to what its group is linked to
abbrev pub linked_of : (ℕ → Option ℕ) → Option ℕ → Option ℕ
linked_of link None = None
linked_of link (Some g) = link g

abbrev pub step : (ℕ → Option ℕ) → (ℕ → Option ℕ) → ℕ → Option ℕ
step home link i = linked_of link (home i)

-- following the steps from i ends, and all on the way has a property
pub data Ends (next : ℕ → Option ℕ) (keep : ℕ → Type 0) : ℕ → Type 0 where
  stop : {i : ℕ} → keep i → next i ≡ None → Ends next keep i
  go : {i j : ℕ} → keep i → next i ≡ Some j → Ends next keep j → Ends next keep i

-- the steps from i come to j
pub data Comes (next : ℕ → Option ℕ) : ℕ → ℕ → Type 0 where
  here : {i j : ℕ} → i ≡ j → Comes next i j
  later : {i j k : ℕ} → next i ≡ Some k → Comes next k j → Comes next i j

-- from every instance the links end
pub record AllEnd (graph : Graph) (links : List (Option ℕ)) : Type 0 where
  pub each : (i : ℕ) → Ends (step (home_in graph) (place links)) (λ k. Unit {0}) i

-- a group stands in the queue of an instance
pub record IsQueued (nexts heads : List (Option ℕ)) (d g : ℕ) : Type 0 where
  pub head : ℕ
  pub is : place heads d ≡ Some head
  pub way : Comes (place nexts) head g

-- the queue of an instance ends, and has exactly the groups that are linked to it
pub record AreQueued (links nexts heads : List (Option ℕ)) : Type 0 where
  pub only : (d h : ℕ) → place heads d ≡ Some h → Ends (place nexts) (λ g. place links g ≡ Some d) h
  pub all : (g d : ℕ) → place links g ≡ Some d → IsQueued nexts heads d g

-- the group is linked to an instance that isn't ready
pub record IsHeld (graph : Graph) (links : List (Option ℕ)) (g : ℕ) : Type 0 where
  pub to : ℕ
  pub link : place links g ≡ Some to
  pub unready : ready_in graph to ≡ false

-- nobody waits for a member of the group, and the instance is none of them
pub record IsAlone (graph : Graph) (heads : List (Option ℕ)) (g to : ℕ) : Type 0 where
  pub unlinked : (d : ℕ) → home_in graph d ≡ Some g → place heads d ≡ None
  pub other : home_in graph to ≡ Some g → ⊥

-- a group can be linked to what a search found, and no circle of links is closed
pub record IsFound (graph : Graph) (heads : List (Option ℕ)) (g to : ℕ) : Type 0 where
  pub reached : (i : ℕ) → home_in graph i ≡ Some g → Reaches (entries_of graph) i to
  pub below : to < length graph.homes.items
  pub unready : ready_in graph to ≡ false
  pub apart : (home_in graph to ≡ None) ⊎ IsAlone graph heads g to

-- only the link of one group is another
pub record IsRelinked (old new : List (Option ℕ)) (g : ℕ) : Type 0 where
  pub kept : (n : ℕ) → (n ≡ g → ⊥) → place new n ≡ place old n

-- how many groups are linked to an instance
abbrev pub linked_once : ℕ → Option ℕ → ℕ
linked_once i None = 0
linked_once i (Some d) = if d == i then 1 else 0

abbrev pub waiting : ℕ → List (Option ℕ) → ℕ
waiting i [] = 0
waiting i (x ∷ xs) = linked_once i x + waiting i xs
