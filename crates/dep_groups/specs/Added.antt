-- A core that has one group more.
use Rattle.std.specs.Prelude.{◌≡◌, ℕ, Some, None, ◌⊎◌, List, [], ◌∷◌, ◌++◌, ◌+◌, ◌≤◌, length, Contains, vec_len, vec_capacity}
use Rattle.orc_ids.specs.declared.ids.InstId.{InstId}
use Rattle.dep_groups.specs.declared.graph.Graph.{Graph}
use Rattle.orc_ids.specs.declared.groups.Group.{Group}
use Rattle.dep_groups.specs.declared.resolve.Core.{Core}
use Rattle.dep_groups.specs.Nodes.{node_of, spare, IsEnough}
use Rattle.dep_groups.specs.Shape.{home_in}

-- the members of a group are at home there, and all others where they were
pub record IsHoused (old new : Graph) (members : List InstId) (g : ℕ) : Type 0 where
  pub members_home : (m : InstId) → Contains members m → home_in new m.0 ≡ Some g
  pub others : (i : ℕ) → (home_in new i ≡ home_in old i) ⊎ (Contains members (record { 0 = i }) × (home_in new i ≡ Some g))

-- none of the members is emitted
abbrev pub AreFresh : Graph → List InstId → Type 0
AreFresh graph members = (m : InstId) → Contains members m → home_in graph m.0 ≡ None

-- there is room for so many groups with so many members and dependencies in all
pub record HasRoom (core : Core) (groups members deps : ℕ) : Type 0 where
  pub edges : deps ≤ spare (vec_capacity core.graph.edges) (vec_len core.graph.edges)
  pub nodes : IsEnough core.graph.nodes.room groups members deps
  pub links : vec_len core.links + groups ≤ vec_capacity core.links
  pub nexts : vec_len core.nexts + groups ≤ vec_capacity core.nexts
  pub cursors : vec_len core.cursors + groups ≤ vec_capacity core.cursors
  pub seen : vec_len core.trail.seen + groups ≤ vec_capacity core.trail.seen
  pub order : vec_len core.trail.seen + groups ≤ vec_capacity core.trail.order

-- a group is added, and nothing is ready that wasn't
pub record IsAdded (old new : Core) (group : Group) : Type 0 where
  pub housed : IsHoused old.graph new.graph group.members (length old.graph.nodes.items)
  pub nodes : new.graph.nodes.items ≡ old.graph.nodes.items ++ node_of group ∷ []
  pub links : new.links.items ≡ old.links.items ++ None ∷ []
  pub ready : new.graph.ready ≡ old.graph.ready
  pub told : new.told ≡ old.told
  pub homes : length new.graph.homes.items ≡ length old.graph.homes.items
  pub firsts : length new.graph.firsts.items ≡ length old.graph.firsts.items
  pub room : (groups members deps : ℕ) → HasRoom old (groups + 1) (length group.members + members) (length group.deps + deps) → HasRoom new groups members deps
