-- The static linker over objects that were laid out: the blocks that an entry needs, at their addresses, with the cells
-- and stubs that their edges use, and all their edges applied, by one map from symbols to where they are. No session
-- occurs in it.
use Rattle.std.specs.Prelude.{◌≡◌, ℕ, ◌+◌, ◌<◌, ◌≤◌, Bool, true, ◌&&◌, ◌||◌, List, ◌++◌, length, map, filter, slice_get, Contains, Option, Some, None, IsSome, is_some}
use Rattle.link_model.specs.Image.{Write, all_written, at_or, cell_write, edge_write, is_paired, offset_of, pieces, place_of, raw_byte, stub_write}
use Rattle.link_model.specs.Layout.{CELL_SIZE, STUB_SIZE, needs_cell, needs_stub, some_edge}
use Rattle.link_model.specs.Sound.{sizes}
use Rattle.link_model.specs.declared.graph.Edge.{Edge}
use Rattle.link_model.specs.declared.graph.GPlace.TheVariants.{In}
use Rattle.link_model.specs.declared.graph.Layout.{Layout}
use Rattle.link_model.specs.declared.graph.LinkGraph.{LinkGraph}

-- an object of a program: its graph, its layout, and its base
pub record Member : Type 0 where
  pub graph : LinkGraph
  pub layout : Layout
  pub base : ℕ

-- where a symbol is: its address, and the member and the block that it lies in, if it lies in one
pub record Spot : Type 0 where
  pub address : ℕ
  pub block : Option (ℕ × ℕ)

-- the linker's one map: where each symbol of each member is
abbrev pub Spots : Type 0
Spots = ℕ → ℕ → Spot

-- Which blocks are needed. A block is named by its member and its number there.

-- an edge of the first block refers to a symbol in the second, or is the low part of a pair whose label lies there
pub data Leads (members : List Member) (spots : Spots) (from to : ℕ × ℕ) : Type 0 where
  Refers : (m : Member) (e : Edge) → slice_get members from.0 ≡ Some m → Contains m.graph.edges e → e.block ≡ from.1 →
      (spots from.0 e.target).block ≡ Some to → Leads members spots from to
  Pairs : (m : Member) (e : Edge) (offset : ℕ) → slice_get members from.0 ≡ Some m → Contains m.graph.edges e → e.block ≡ from.1 →
      is_paired e.kind ≡ true → place_of m.graph e.target ≡ In to.1 offset → to.0 ≡ from.0 → Leads members spots from to

-- a way from one block to another, each of which leads to the next
pub data Way (members : List Member) (spots : Spots) : ℕ × ℕ → ℕ × ℕ → Type 0 where
  Here : (b : ℕ × ℕ) → Way members spots b b
  On : (from next to : ℕ × ℕ) → Leads members spots from next → Way members spots next to → Way members spots from to

-- the least set that has the entry's block and is closed under the edges of its blocks; an entry in no block needs none
abbrev pub IsNeeded : List Member → Spots → Option (ℕ × ℕ) → ℕ × ℕ → Type 0
IsNeeded members spots (Some first) block = Way members spots first block
IsNeeded members spots None block = ⊥

-- What is linked of a member, by which of its blocks are chosen

abbrev pub chosen_edges : (ℕ → Bool) → LinkGraph → List Edge
chosen_edges chosen g = filter (λ (e : Edge). chosen e.block) g.edges

-- a stub is used where a chosen edge calls its symbol
abbrev pub uses_stub : (ℕ → Bool) → Member → ℕ → Bool
uses_stub chosen m s = is_some (offset_of m.layout.stubs s) && some_edge needs_stub (chosen_edges chosen m.graph) s

-- a cell is used where a chosen edge names it, and where its symbol's stub is used
abbrev pub uses_cell : (ℕ → Bool) → Member → ℕ → Bool
uses_cell chosen m s = some_edge needs_cell (chosen_edges chosen m.graph) s || uses_stub chosen m s

-- the writes of the used cells, of the used stubs, and of the chosen edges in file order
abbrev pub chosen_writes : Member → (ℕ → Bool) → (ℕ → ℕ) → List Write
chosen_writes m chosen address =
    map (cell_write address) (filter (λ (p : ℕ × ℕ). uses_cell chosen m p.0) m.layout.cells)
    ++ map (stub_write m.layout) (filter (λ (p : ℕ × ℕ). uses_stub chosen m p.0) m.layout.stubs)
    ++ map (edge_write m.graph m.layout m.base address) (chosen_edges chosen m.graph)

-- all of them applied to the member's raw bytes, in one fold
abbrev pub linked_byte : Member → (ℕ → Bool) → (ℕ → ℕ) → ℕ → ℕ
linked_byte m chosen address = all_written (chosen_writes m chosen address) (raw_byte (pieces m.graph m.layout))

-- a place of the member lies in a chosen block, a used cell or a used stub
pub data IsMapped (m : Member) (chosen : ℕ → Bool) (place : ℕ) : Type 0 where
  InBlock : (block : ℕ) → block < length m.graph.blocks → chosen block ≡ true → at_or 0 m.layout.blocks block ≤ place →
      place < at_or 0 m.layout.blocks block + at_or 0 (sizes m.graph) block → IsMapped m chosen place
  InCell : (p : ℕ × ℕ) → Contains m.layout.cells p → uses_cell chosen m p.0 ≡ true → p.1 ≤ place → place < p.1 + CELL_SIZE → IsMapped m chosen place
  InStub : (p : ℕ × ℕ) → Contains m.layout.stubs p → uses_stub chosen m p.0 ≡ true → p.1 ≤ place → place < p.1 + STUB_SIZE → IsMapped m chosen place

-- The program

-- an address is that of a mapped place of a member
pub record IsLinkedAt (members : List Member) (chosen : ℕ → ℕ → Bool) (at : ℕ) : Type 0 where
  pub number : ℕ
  pub member : Member
  pub there : slice_get members number ≡ Some member
  pub place : ℕ
  pub mapped : IsMapped member (chosen number) place
  pub is : at ≡ member.base + place

-- The memory has what the entry in this block needs of the members, linked by the map, and nothing else.
pub record IsLinkedProgram (members : List Member) (spots : Spots) (first : Option (ℕ × ℕ)) (memory : ℕ → Option ℕ) : Type 0 where
  pub chosen : ℕ → ℕ → Bool
  pub needed : (o b : ℕ) → chosen o b ≡ true → IsNeeded members spots first (o, b)
  pub closed : (o b : ℕ) → IsNeeded members spots first (o, b) → chosen o b ≡ true
  pub has : (o place : ℕ) (m : Member) → slice_get members o ≡ Some m → IsMapped m (chosen o) place →
      memory (m.base + place) ≡ Some (linked_byte m (chosen o) (λ s. (spots o s).address) place)
  pub only : (at : ℕ) → IsSome (memory at) → IsLinkedAt members chosen at
