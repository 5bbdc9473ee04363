-- Groups are added, from the last to the first.
use Rattle.std.specs.Prelude.{◌≡◌, ℕ, ◌<◌, ◌≤◌, Some, List, length, slice_get, Contains}
use Rattle.std.specs.List.{sum_by}
use Rattle.orc_ids.specs.declared.ids.InstId.{InstId}
use Rattle.dep_groups.specs.declared.graph.Graph.{Graph}
use Rattle.orc_ids.specs.declared.groups.Group.{Group}
use Rattle.dep_groups.specs.declared.resolve.Core.{Core}
use Rattle.dep_groups.specs.Frontier.{numbers}
use Rattle.dep_groups.specs.Shape.{home_in, deps_in}
use Rattle.dep_groups.specs.Added.{AreFresh}

-- how many members and how many dependencies some groups have in all
abbrev pub member_count : List Group → ℕ
member_count groups = sum_by (λ g. length g.members) groups

abbrev pub dep_count : List Group → ℕ
dep_count groups = sum_by (λ g. length g.deps) groups

-- the numbers of members and dependencies are below n
pub record AreBelow (groups : List Group) (n : ℕ) : Type 0 where
  pub members : (k : ℕ) (group : Group) (m : InstId) → slice_get groups k ≡ Some group → Contains group.members m → m.0 < n
  pub deps : (k : ℕ) (group : Group) (d : InstId) → slice_get groups k ≡ Some group → Contains group.deps d → d.0 < n

-- no member of a group is emitted
pub record AreNew (graph : Graph) (groups : List Group) : Type 0 where
  pub fresh : (k : ℕ) (group : Group) → slice_get groups k ≡ Some group → AreFresh graph group.members

-- an instance is at home in a group of these dependencies
pub record IsHome (graph : Graph) (deps : List ℕ) (i : ℕ) : Type 0 where
  pub group : ℕ
  pub home : home_in graph i ≡ Some group
  pub deps_same : deps_in graph group ≡ deps

-- the groups from a place on were added
pub record AreAdded (old new : Core) (groups : List Group) (from : ℕ) : Type 0 where
  pub each : (k : ℕ) (group : Group) (m : InstId) → from ≤ k → slice_get groups k ≡ Some group → Contains group.members m → IsHome new.graph (numbers group.deps) m.0
  pub others : (i : ℕ) → ((k : ℕ) (group : Group) → from ≤ k → slice_get groups k ≡ Some group → Contains group.members (record { 0 = i }) → ⊥) → home_in new.graph i ≡ home_in old.graph i
  pub deps : (g : ℕ) → g < length old.graph.nodes.items → deps_in new.graph g ≡ deps_in old.graph g
  pub longer : length old.graph.nodes.items ≤ length new.graph.nodes.items
  pub ready : new.graph.ready ≡ old.graph.ready
  pub told : new.told ≡ old.told
  pub homes : length new.graph.homes.items ≡ length old.graph.homes.items
  pub firsts : length new.graph.firsts.items ≡ length old.graph.firsts.items
