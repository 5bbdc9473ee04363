-- What an instance reaches and isn't emitted, as it is counted.
use Rattle.std.specs.Prelude.{◌≡◌, ℕ, ◌<◌, ◌+◌, Bool, true, ◌⊎◌, List, length, Contains}
use Rattle.dep_groups.specs.declared.graph.Graph.{Graph}
use Rattle.dep_groups.specs.declared.trail.Trail.{Trail}
use Rattle.dep_groups.specs.Places.{is_set, unset}
use Rattle.dep_groups.specs.Shape.{deps_in}
use Rattle.dep_groups.specs.Search.{IsVisit, IsNamed, IsLooked, IsOpen}

-- so many flags are set
pub record AreCounted (flags : List Bool) (count : ℕ) : Type 0 where
  pub sum : count + unset flags ≡ length flags

-- there is a flag for each instance that a group depends on
pub record AreWithin (graph : Graph) (flags : List Bool) : Type 0 where
  pub within : (g d : ℕ) → Contains (deps_in graph g) d → d < length flags

-- a group that was come to depends on the instance, and the instance is not emitted
pub record IsPending (graph : Graph) (trail : Trail) (i : ℕ) : Type 0 where
  pub from : ℕ
  pub named : IsNamed graph trail from i
  pub is_open : IsOpen graph trail i

-- only such instances are flagged
pub record AreNoted (graph : Graph) (trail : Trail) (flags : List Bool) : Type 0 where
  pub only : (i : ℕ) → is_set flags i ≡ true → IsPending graph trail i

-- the instance is ready, or its group was come to, or it is flagged
abbrev pub IsCovered : Graph → Trail → List Bool → ℕ → Type 0
IsCovered graph trail flags i = IsLooked graph trail i ⊎ (is_set flags i ≡ true)

-- so is all that the group of a visit depends on
pub record IsCoveredFrom (graph : Graph) (trail : Trail) (flags : List Bool) (k : ℕ) : Type 0 where
  pub covered : (g d : ℕ) → IsVisit trail.order.items k g → Contains (deps_in graph g) d → IsCovered graph trail flags d
