-- Edges by a key, and what is known of the lists that are made by it.
use Rattle.std.specs.Prelude.{◌≡◌, ℕ, ◌==◌, Bool, false, List, length, map, filter, Option, Some, None, Contains}
use Rattle.link_model.specs.declared.graph.Edge.{Edge}
use Rattle.block_groups.specs.Lists.{row}

abbrev pub is_key : ℕ → Option ℕ → Bool
is_key k None = false
is_key k (Some j) = j == k

-- the blocks of the edges that have this key
abbrev pub blocks_with : (Edge → Option ℕ) → List Edge → ℕ → List ℕ
blocks_with key edges k = map (λ (e : Edge). e.block) (filter (λ (e : Edge). is_key k (key e)) edges)

-- the lists have the blocks of the edges by their keys, be it once for several edges
pub record AreKeyed (key : Edge → Option ℕ) (edges : List Edge) (count : ℕ) (lists : List (List ℕ)) : Type 0 where
  pub whole : length lists ≡ count
  pub all : (k b : ℕ) → Contains (blocks_with key edges k) b → Contains (row lists k) b
  pub only : (k b : ℕ) → Contains (row lists k) b → Contains (blocks_with key edges k) b

-- an edge has its symbol for a key
abbrev pub target_of : Edge → Option ℕ
target_of e = Some e.target
