-- Where a unit may lie.
use Rattle.std.specs.Prelude.{◌≡◌, ◌≢◌, ℕ, ◌+◌, ◌^◌, ◌<◌, ◌≤◌, Bool, true, List, [], length}
use Rattle.std.specs.List.{All}
use Rattle.link_model.specs.Layout.{layout_of, CELL_SIZE, STUB_SIZE}
use Rattle.link_model.specs.Graph.{is_defined}
use Rattle.link_model.specs.Image.{at_or, place_of}
use Rattle.link_model.specs.Offers.{offered_symbols}
use Rattle.link_model.specs.Sound.{sizes, Sound}
use Rattle.link_model.specs.declared.graph.Edge.{Edge}
use Rattle.link_model.specs.declared.graph.Layout.{Layout}
use Rattle.link_model.specs.declared.graph.LinkGraph.{LinkGraph}

-- a unit that needs no other: it has no cell and no stub
pub record Alone (g : LinkGraph) (l : Layout) : Type 0 where
  pub externals : l.externals ≡ []
  pub cells : l.cells ≡ []
  pub stubs : l.stubs ≡ []
  pub edges : All (λ (e : Edge). e.kind ≢ 20) g.edges

-- every edge refers to a symbol that the graph itself defines, and none through a GOT cell
abbrev pub Closed : LinkGraph → Type 0
Closed g = All (λ (e : Edge). (is_defined (place_of g e.target) ≡ true) × (e.kind ≢ 20)) g.edges

-- there is a flag for each offered symbol, and each is live
abbrev pub AllLive : LinkGraph → List Bool → Type 0
AllLive g live = (length live ≡ length (offered_symbols g)) × All (λ b. b ≡ true) live

-- a graph, its layout, and a base at which the unit has room
pub record Placed (g : LinkGraph) (l : Layout) (base : ℕ) : Type 0 where
  pub sound : Sound g
  pub laid : l ≡ layout_of g l.live
  -- each stub is within reach of its cell
  pub small : l.shape.need < 2 ^ 27
  pub room : base + l.shape.need < 2 ^ 63

-- a symbol of the graph with the offset of something of that size, which lies inside what the unit needs
abbrev pub PartLies : LinkGraph → Layout → ℕ → ℕ × ℕ → Type 0
PartLies g l size p = (p.0 < length g.symbols) × (p.1 + size ≤ l.shape.need)

-- the same by the facts that the program goes by: each block, cell and stub lies inside what the unit
-- needs, and their symbols and the externals are symbols of the graph
pub record Lies (g : LinkGraph) (l : Layout) (base : ℕ) : Type 0 where
  pub sound : Sound g
  pub count : length l.blocks ≡ length g.blocks
  pub inside : (k : ℕ) → k < length g.blocks → at_or 0 l.blocks k + at_or 0 (sizes g) k ≤ l.shape.need
  pub cells : All (PartLies g l CELL_SIZE) l.cells
  pub stubs : All (PartLies g l STUB_SIZE) l.stubs
  pub externals : All (λ s. s < length g.symbols) l.externals
  pub small : l.shape.need < 2 ^ 27
  pub room : base + l.shape.need < 2 ^ 63
