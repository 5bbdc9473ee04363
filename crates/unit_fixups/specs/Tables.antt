-- What the program keeps of a graph: what edges reach of each symbol, and the values of the upper parts
-- by place.
use Rattle.std.specs.Prelude.{◌≡◌, ℕ, Bool, ◌&&◌, ◌==◌, nat_eq, nat_le, nat_lt, ◌+◌, ◌-◌, if◌then◌else◌, length, slice_index, slice_index_or, ℤ, List, map, Option, None, find, option_map}
use Rattle.link_model.specs.Image.{lone_value, is_upper, offset_of, stub_bytes}
use Rattle.link_model.specs.declared.graph.Edge.{Edge}
use Rattle.link_model.specs.declared.graph.Layout.{Layout}
use Rattle.link_model.specs.declared.graph.LinkGraph.{LinkGraph}
use Rattle.unit_fixups.specs.declared.targets.Targets.{Targets}

-- the address of a symbol, by the table
abbrev pub address_in : Targets → ℕ → ℕ
address_in t = slice_index t.told.items

-- a table has for each symbol what a list of pairs has for it
pub record IsTable (count : ℕ) (pairs : List (ℕ × ℕ)) (table : List (Option ℕ)) : Type 0 where
  pub whole : length table ≡ count
  pub exact : (s : ℕ) → slice_index_or table s None ≡ offset_of pairs s

-- the tables of cells and stubs are those of the layout
pub record AreTables (g : LinkGraph) (l : Layout) (t : Targets) : Type 0 where
  pub told : length t.told.items ≡ length g.symbols
  pub cells : IsTable (length g.symbols) l.cells t.cells.items
  pub stubs : IsTable (length g.symbols) l.stubs t.stubs.items

-- an upper edge at a place
abbrev pub is_upper_at : ℕ → ℕ → Edge → Bool
is_upper_at block offset h = is_upper h.kind && (h.block == block && h.offset == offset)

-- the value of the first upper edge at a place
abbrev pub upper_value : Layout → ℕ → (ℕ → ℕ) → List Edge → ℕ → ℕ → Option ℤ
upper_value l base address edges block offset = option_map (lone_value l base address) (find (is_upper_at block offset) edges)

-- two places are one
abbrev pub same_place : ℕ × ℕ → ℕ × ℕ → Bool
same_place x y = nat_eq x.0 y.0 && nat_eq x.1 y.1

-- the bytes with a list of bytes written from a place
abbrev pub with_piece : ℕ → List ℕ → (ℕ → ℕ) → ℕ → ℕ
with_piece at piece bytes place = if nat_le at place && nat_lt place (at + length piece) then slice_index piece (place - at) else bytes place

-- the stubs' words at their offsets
abbrev pub stub_pieces : List (ℕ × ℕ) → List (ℕ × List ℕ)
stub_pieces stubs = map (λ (p : ℕ × ℕ). (p.1, stub_bytes)) stubs
