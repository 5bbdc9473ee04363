-- What a group may wait for, and a trail between searches.
use Rattle.std.specs.Prelude.{◌≡◌, ℕ, ◌≤◌, true, false, Some, ◌⊎◌, [], length, slice_get, vec_capacity, Contains}
use Rattle.dep_groups.specs.declared.graph.Graph.{Graph}
use Rattle.dep_groups.specs.declared.trail.Trail.{Trail}
use Rattle.dep_groups.specs.Places.{is_set}
use Rattle.dep_groups.specs.Shape.{home_in, deps_in, ready_in}

-- the instance is ready, or a member of the group
abbrev pub IsOwn : Graph → ℕ → ℕ → Type 0
IsOwn graph g i = (ready_in graph i ≡ true) ⊎ (home_in graph i ≡ Some g)

-- a dependency of the group that is neither
pub record IsOther (graph : Graph) (g i : ℕ) : Type 0 where
  pub named : Contains (deps_in graph g) i
  pub unready : ready_in graph i ≡ false
  pub outside : home_in graph i ≡ Some g → ⊥

-- all that the group depends on is ready, or a member of it
pub record AreOwn (graph : Graph) (g : ℕ) : Type 0 where
  pub own : (k d : ℕ) → slice_get (deps_in graph g) k ≡ Some d → IsOwn graph g d

-- a trail on which nothing was seen, with room for all groups
pub record IsClear (trail : Trail) : Type 0 where
  pub unseen : (g : ℕ) → is_set trail.seen.items g ≡ false
  pub empty : trail.order.items ≡ []
  pub room : length trail.seen.items ≤ vec_capacity trail.order
