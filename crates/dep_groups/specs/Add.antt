-- A group is added.
use Rattle.std.specs.Prelude.{◌≡◌, ℕ, ◌<◌, ◌⊎◌, Option, Some, List, length, slice_get, Contains}
use Rattle.orc_ids.specs.declared.ids.InstId.{InstId}
use Rattle.dep_groups.specs.declared.graph.Edge.{Edge}
use Rattle.dep_groups.specs.Places.{place}
use Rattle.dep_groups.specs.Wake.{IsListed}

-- a mention is behind the one that it leads to; the first ones are there, and of groups below n
pub record ListsFall (firsts : List (Option ℕ)) (edges : List Edge) (n : ℕ) : Type 0 where
  pub falls : (k j : ℕ) (e : Edge) → slice_get edges k ≡ Some e → e.next ≡ Some j → j < k
  pub groups : (k : ℕ) (e : Edge) → slice_get edges k ≡ Some e → e.group < n
  pub firsts_there : (d k : ℕ) → place firsts d ≡ Some k → k < length edges

-- an instance is at home where it was, or it is a member of the group
abbrev pub StaysOrMoves : List (Option ℕ) → List (Option ℕ) → List InstId → ℕ → ℕ → Type 0
StaysOrMoves old new members g i = (place new i ≡ place old i) ⊎ (Contains members (record { 0 = i }) × (place new i ≡ Some g))

-- with these instances the group is listed, and else nobody who wasn't
abbrev pub ListsOnly : List (Option ℕ) → List Edge → List (Option ℕ) → List Edge → (ℕ → Type 0) → ℕ → Type 0
ListsOnly firsts edges new more these group = (d g : ℕ) → IsListed more (place new d) g → IsListed edges (place firsts d) g ⊎ (these d × (g ≡ group))
