-- What becomes ready, and is told.
use Rattle.std.specs.Prelude.{◌≡◌, ℕ, ◌≤◌, Bool, true, false, Option, Some, ◌⊎◌, List, [], slice_get, length, Contains}
use Rattle.std.specs.Option.{option_map_or}
use Rattle.orc_ids.specs.declared.ids.InstId.{InstId}
use Rattle.dep_groups.specs.Nodes.{Node}
use Rattle.dep_groups.specs.Places.{place, is_set}
use Rattle.dep_groups.specs.Search.{IsVisit}

-- the members of the group number g
unfoldable pub members_of : List Node → ℕ → List InstId
members_of nodes g = option_map_or (λ n. n.members) (slice_get nodes g) []

-- the instance is among those told from the place n on
pub record IsTold (told : List InstId) (n : ℕ) (m : InstId) : Type 0 where
  pub at : ℕ
  pub after : n ≤ at
  pub is : slice_get told at ≡ Some m

-- exactly what became ready is told, behind what was told, and once
pub record Tells (old new : List Bool) (was told : List InstId) : Type 0 where
  pub stays : (i : ℕ) → is_set old i ≡ true → is_set new i ≡ true
  pub front : (k : ℕ) (m : InstId) → slice_get was k ≡ Some m → slice_get told k ≡ Some m
  pub longer : length was ≤ length told
  pub all : (i : ℕ) → is_set new i ≡ true → (is_set old i ≡ true) ⊎ IsTold told (length was) (record { 0 = i })
  pub only : (k : ℕ) (m : InstId) → length was ≤ k → slice_get told k ≡ Some m → (is_set old m.0 ≡ false) × (is_set new m.0 ≡ true)
  pub once : (j k : ℕ) (m : InstId) → length was ≤ j → length was ≤ k → slice_get told j ≡ Some m → slice_get told k ≡ Some m → j ≡ k

-- what became ready is of a group
abbrev pub AreOf : List (Option ℕ) → List Bool → List Bool → ℕ → Type 0
AreOf homes old new g = (i : ℕ) → is_set new i ≡ true → (is_set old i ≡ true) ⊎ (place homes i ≡ Some g)

-- the instance is of a group that a search came to
pub record IsOfTrail (homes : List (Option ℕ)) (order : List ℕ) (i : ℕ) : Type 0 where
  pub at : ℕ
  pub group : ℕ
  pub is : IsVisit order at group
  pub member : place homes i ≡ Some group

-- all members of the groups that a search came to, as far as they are at home there, are marked
pub record AreMarked (homes : List (Option ℕ)) (nodes : List Node) (ready : List Bool) (order : List ℕ) : Type 0 where
  pub marked : (g : ℕ) (m : InstId) → Contains order g → Contains (members_of nodes g) m → place homes m.0 ≡ Some g → is_set ready m.0 ≡ true
