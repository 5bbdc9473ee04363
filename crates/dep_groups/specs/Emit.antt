-- What an emission does to what a frontier keeps.
use Rattle.std.specs.Prelude.{◌≡◌, ℕ, ◌<◌, true, false, Some, ◌⊎◌, List, length, slice_get, Contains}
use Rattle.orc_ids.specs.declared.ids.InstId.{InstId}
use Rattle.orc_ids.specs.declared.groups.Group.{Group}
use Rattle.dep_groups.specs.declared.resolve.Core.{Core}
use Rattle.dep_groups.specs.Shape.{home_in, deps_in, ready_in}
use Rattle.dep_groups.specs.Frontier.{numbers}
use Rattle.dep_groups.specs.Marks.{IsTold}
use Rattle.dep_groups.specs.Adding.{IsHome}

pub record IsEmitted (old new : Core) (groups : List Group) : Type 0 where
  pub each : (k : ℕ) (group : Group) (m : InstId) → slice_get groups k ≡ Some group → Contains group.members m → IsHome new.graph (numbers group.deps) m.0
  pub others : (i : ℕ) → ((k : ℕ) (group : Group) → slice_get groups k ≡ Some group → Contains group.members (record { 0 = i }) → ⊥) → home_in new.graph i ≡ home_in old.graph i
  pub deps : (g : ℕ) → g < length old.graph.nodes.items → deps_in new.graph g ≡ deps_in old.graph g
  pub all : (i : ℕ) → ready_in new.graph i ≡ true → (ready_in old.graph i ≡ true) ⊎ IsTold new.told.items 0 (record { 0 = i })
  pub stays : (i : ℕ) → ready_in old.graph i ≡ true → ready_in new.graph i ≡ true
  pub only : (k : ℕ) (m : InstId) → slice_get new.told.items k ≡ Some m → (ready_in old.graph m.0 ≡ false) × (ready_in new.graph m.0 ≡ true)
  pub once : (j k : ℕ) (m : InstId) → slice_get new.told.items j ≡ Some m → slice_get new.told.items k ≡ Some m → j ≡ k
