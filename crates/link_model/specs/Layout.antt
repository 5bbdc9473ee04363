-- Where the parts of a unit lie: its blocks in order, then the GOT cells, then the stubs of calls to
-- other units (RISC-V ELF psABI, "Global Offset Table" and "Procedure Linkage Table").
use Rattle.std.specs.Prelude.{ℕ, ◌+◌, ◌-◌, ◌*◌, ◌/◌, max, Bool, ◌&&◌, ◌||◌, ◌==◌, not, List, [], ◌∷◌, length, fold}
use Rattle.std.specs.List.{list_any}
use Rattle.link_model.specs.Graph.{own_symbols, external_symbols, numbers_where}
use Rattle.link_model.specs.declared.graph.Block.{Block}
use Rattle.link_model.specs.declared.graph.Edge.{Edge}
use Rattle.link_model.specs.declared.graph.Layout.{Layout}
use Rattle.link_model.specs.declared.graph.LinkGraph.{LinkGraph}

-- the least multiple of the alignment that is no less
abbrev pub aligned : ℕ → ℕ → ℕ
aligned at align = (at + (align - 1)) / align * align

-- each block at the next multiple of its alignment
abbrev pub block_offsets : ℕ → List Block → List ℕ
block_offsets at [] = []
block_offsets at (b ∷ bs) = aligned at b.align ∷ block_offsets (aligned at b.align + b.size) bs

abbrev pub blocks_end : ℕ → List Block → ℕ
blocks_end at [] = at
blocks_end at (b ∷ bs) = blocks_end (aligned at b.align + b.size) bs

-- GOT_HI20 names a cell
abbrev pub needs_cell : Edge → Bool
needs_cell e = e.kind == 20

-- CALL, CALL_PLT and PLT32 reach another unit through a stub
abbrev pub needs_stub : Edge → Bool
needs_stub e = e.kind == 18 || e.kind == 19 || e.kind == 59

abbrev pub some_edge : (Edge → Bool) → List Edge → ℕ → Bool
some_edge test edges s = list_any (λ (e : Edge). e.target == s && test e) edges

-- the symbols that have a stub, in symbol order: the externals that a call refers to
abbrev pub stub_symbols : LinkGraph → List Bool → List ℕ
stub_symbols g live = numbers_where (λ s own. not own && some_edge needs_stub g.edges s) 0 (own_symbols g.symbols live)

-- the symbols that have a cell: those, and all that a GOT_HI20 edge refers to
abbrev pub cell_symbols : LinkGraph → List Bool → List ℕ
cell_symbols g live = numbers_where (λ s own. some_edge needs_cell g.edges s || not own && some_edge needs_stub g.edges s) 0 (own_symbols g.symbols live)

-- one after another from a place, each of this size
abbrev pub in_turn : ℕ → ℕ → List ℕ → List (ℕ × ℕ)
in_turn at size [] = []
in_turn at size (s ∷ ss) = (s, at) ∷ in_turn (at + size) size ss

abbrev pub CELL_SIZE : ℕ
CELL_SIZE = 8

abbrev pub STUB_SIZE : ℕ
STUB_SIZE = 16

abbrev pub cells_start : LinkGraph → ℕ
cells_start g = aligned (blocks_end 0 g.blocks) 8

abbrev pub stubs_start : LinkGraph → List Bool → ℕ
stubs_start g live = aligned (cells_start g + CELL_SIZE * length (cell_symbols g live)) 16

-- a unit needs 16 bytes at least, and a multiple of 16
abbrev pub unit_need : LinkGraph → List Bool → ℕ
unit_need g live = max 16 (aligned (stubs_start g live + STUB_SIZE * length (stub_symbols g live)) 16)

abbrev pub unit_align : LinkGraph → ℕ
unit_align g = fold (λ align (b : Block). max align b.align) 16 g.blocks

-- the layout of a graph with these live names
abbrev pub layout_of : LinkGraph → List Bool → Layout
layout_of g live = record {
  blocks = block_offsets 0 g.blocks;
  cells = in_turn (cells_start g) CELL_SIZE (cell_symbols g live);
  stubs = in_turn (stubs_start g live) STUB_SIZE (stub_symbols g live);
  shape = record { need = unit_need g live; align = unit_align g };
  externals = external_symbols g live;
  live = live;
}
