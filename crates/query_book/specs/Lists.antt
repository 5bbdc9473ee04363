-- Lists of queries as chains of nodes in one vector.
use Rattle.std.specs.Prelude.{◌≡◌, ℕ, ◌<◌, zero, suc, List, [], ◌∷◌, Option, None, Some, slice_get, map, length, option_and_then}
use Rattle.std.specs.Option.{option_map_or}
use Rattle.orc_ids.specs.declared.ids.InstId.{InstId}
use Rattle.query_book.specs.declared.lists.Node.{Node}

-- for each instance its list, and for how many more nodes there is room
pub record Chains : Type 0 where
  pub lists : List (List ℕ)
  pub spare : ℕ

-- the queries of a chain, from this node on; a chain is no longer than all nodes
abbrev pub walk : ℕ → List Node → Option ℕ → List ℕ
walk zero nodes link = []
walk (suc f) nodes link = option_map_or (λ n. n.query ∷ walk f nodes n.next) (option_and_then (λ m. slice_get nodes m) link) []

abbrev pub walks : List Node → List (Option ℕ) → List (List ℕ)
walks nodes firsts = map (walk (length nodes) nodes) firsts

-- each chain begins at a node, and goes on at an older one
pub record IsChained (nodes : List Node) (firsts : List (Option ℕ)) : Type 0 where
  pub begins : (i m : ℕ) → slice_get firsts i ≡ Some (Some m) → m < length nodes
  pub falls : (m j : ℕ) (n : Node) → slice_get nodes m ≡ Some n → n.next ≡ Some j → j < m

-- each of the instances has a list
abbrev pub HasLists : List (List ℕ) → List (Option InstId) → Type 0
HasLists lists [] = Unit {0}
HasLists lists (None ∷ matched) = HasLists lists matched
HasLists lists (Some i ∷ matched) = (i.0 < length lists) × HasLists lists matched
