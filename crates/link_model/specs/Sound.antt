-- What every graph of an object keeps (System V gABI, "Relocation": r_offset lies in the section, and
-- the symbol in the symbol table), and how much a unit may have.
use Rattle.std.specs.Prelude.{◌≡◌, ◌≢◌, ℕ, ◌+◌, ◌*◌, ◌^◌, ◌<◌, ◌≤◌, List, length, map, sum_by, IsSome, IsTrue, ⊤}
use Rattle.std.specs.List.{All, AllPairs}
use Rattle.link_model.specs.Graph.{is_offered}
use Rattle.link_model.specs.Kinds.{row_of, rule_of}
use Rattle.link_model.specs.Image.{at_or}
use Rattle.link_model.specs.declared.graph.Block.{Block}
use Rattle.link_model.specs.declared.graph.Edge.{Edge}
use Rattle.link_model.specs.declared.graph.GPlace.{GPlace}
use Rattle.link_model.specs.declared.graph.GPlace.TheVariants.{In}
use Rattle.link_model.specs.declared.graph.GSym.{GSym}
use Rattle.link_model.specs.declared.graph.LinkGraph.{LinkGraph}

abbrev pub sizes : LinkGraph → List ℕ
sizes g = map (λ (b : Block). b.size) g.blocks

-- the bytes of an edge lie in its block, and its kind and its symbol are there
pub record EdgeFits (g : LinkGraph) (e : Edge) : Type 0 where
  pub block : e.block < length g.blocks
  pub inside : e.offset + (rule_of e.kind).width ≤ at_or 0 (sizes g) e.block
  pub known : IsSome (row_of e.kind)
  pub target : e.target < length g.symbols

-- a symbol in a block lies in it, or at its end
abbrev pub PlaceFits : LinkGraph → GPlace → Type 0
PlaceFits g (In block offset) = (block < length g.blocks) × (offset ≤ at_or 0 (sizes g) block)
PlaceFits g _ = ⊤

pub record Sound (g : LinkGraph) : Type 0 where
  pub bytes : All (λ (b : Block). length b.bytes ≤ b.size) g.blocks
  pub aligns : All (λ (b : Block). 0 < b.align) g.blocks
  pub symbols : All (λ (s : GSym). PlaceFits g s.place) g.symbols
  pub edges : All (EdgeFits g) g.edges

-- How much a unit may have: blocks, symbols, edges, and bytes in its blocks

abbrev pub MAX_BLOCKS : ℕ
MAX_BLOCKS = 16384

abbrev pub MAX_SYMBOLS : ℕ
MAX_SYMBOLS = 65536

abbrev pub MAX_EDGES : ℕ
MAX_EDGES = 262144

abbrev pub MAX_BYTES : ℕ
MAX_BYTES = 16 * 1024 * 1024

-- a power of two up to 4,096
abbrev pub IsAlignment : ℕ → Type 0
IsAlignment align = (k : ℕ) × (k ≤ 12) × (align ≡ 2 ^ k)

pub record IsSized (g : LinkGraph) : Type 0 where
  pub blocks : length g.blocks ≤ MAX_BLOCKS
  pub symbols : length g.symbols ≤ MAX_SYMBOLS
  pub edges : length g.edges ≤ MAX_EDGES
  pub bytes : sum_by (λ (b : Block). b.size) g.blocks ≤ MAX_BYTES
  pub aligns : All (λ (b : Block). IsAlignment b.align) g.blocks

-- each symbol that a unit offers has a name, and no two have the same one
pub record OffersDiffer (g : LinkGraph) : Type 0 where
  pub named : All (λ (s : GSym). IsTrue (is_offered s) → IsSome s.name) g.symbols
  pub differ : AllPairs (λ (s t : GSym). IsTrue (is_offered s) → IsTrue (is_offered t) → s.name ≢ t.name) g.symbols
