-- The image of a unit: its raw bytes with every write applied, in one fold. A write is an edge's, or
-- that of a GOT cell or a stub (RISC-V ELF psABI, "Relocations", "Procedure Linkage Table").
use Rattle.std.specs.Prelude.{ℕ, zero, suc, ◌+◌, ◌-◌, Bool, true, false, ◌&&◌, ◌||◌, ◌==◌, nat_le, nat_lt, ℤ, pos, ◌-ℤ◌, List, [], ◌∷◌, ◌++◌, length, map, zip, slice_index, Option, Some, None, option_map, unwrap_or, find, if◌then◌else◌}
use Rattle.std.specs.Option.{option_map_or}
use Rattle.std.specs.Int.{to_le_bytes, w32}
use Rattle.orc_ids.specs.declared.place.Place.{Place}
use Rattle.link_model.specs.Kinds.{row_of, value_of, in_span, edited}
use Rattle.link_model.specs.Layout.{needs_cell, needs_stub}
use Rattle.link_model.specs.declared.graph.Block.{Block}
use Rattle.link_model.specs.declared.graph.Edge.{Edge}
use Rattle.link_model.specs.declared.graph.GPlace.{GPlace}
use Rattle.link_model.specs.declared.graph.GPlace.TheVariants.{In, Abs, External}
use Rattle.link_model.specs.declared.graph.GSym.{GSym}
use Rattle.link_model.specs.declared.graph.Layout.{Layout}
use Rattle.link_model.specs.declared.graph.LinkGraph.{LinkGraph}

-- the element of this number, or another value where there is none
abbrev pub at_or : {X : Type 0} → X → List X → ℕ → X
at_or other [] k = other
at_or other (x ∷ xs) zero = x
at_or other (x ∷ xs) (suc k) = at_or other xs k

-- what a list of pairs has for a number
abbrev pub offset_of : List (ℕ × ℕ) → ℕ → Option ℕ
offset_of ps s = option_map (λ p. p.1) (find (λ p. p.0 == s) ps)

-- Writes

-- a write at a place of the unit, by the rule of a kind
pub record Write : Type 0 where
  pub at : ℕ
  pub kind : ℕ
  pub value : ℤ

abbrev pub written : Write → (ℕ → ℕ) → ℕ → ℕ
written w bytes = option_map_or (λ rule. edited rule w.at w.value bytes) (row_of w.kind) bytes

-- one after another
abbrev pub all_written : List Write → (ℕ → ℕ) → ℕ → ℕ
all_written [] bytes = bytes
all_written (w ∷ ws) bytes = all_written ws (written w bytes)

-- Addresses and values. `address` gives each symbol's address.

-- the place of an edge in its unit
abbrev pub edge_offset : Layout → Edge → ℕ
edge_offset l e = at_or 0 l.blocks e.block + e.offset

-- S of an edge: the symbol's address; its cell's for GOT_HI20; its stub's for a call of an external
abbrev pub edge_symbol : Layout → ℕ → (ℕ → ℕ) → Edge → ℕ
edge_symbol l base address e =
    if needs_cell e then base + unwrap_or (offset_of l.cells e.target) 0
    else (if needs_stub e then option_map_or (λ stub. base + stub) (offset_of l.stubs e.target) (address e.target)
    else address e.target)

abbrev pub rule_value : ℕ → ℕ → ℤ → ℕ → ℤ
rule_value kind s a p = option_map_or (λ rule. value_of rule.formula s a p) (row_of kind) (pos 0)

-- the value of an edge that needs no other
abbrev pub lone_value : Layout → ℕ → (ℕ → ℕ) → Edge → ℤ
lone_value l base address e = rule_value e.kind (edge_symbol l base address e) e.addend (base + edge_offset l e)

abbrev pub is_paired : ℕ → Bool
is_paired kind = kind == 24 || kind == 25

abbrev pub is_upper : ℕ → Bool
is_upper kind = kind == 20 || kind == 23

abbrev pub is_at : GPlace → Edge → Bool
is_at (In block offset) e = e.block == block && e.offset == offset
is_at _ e = false

abbrev pub place_of : LinkGraph → ℕ → GPlace
place_of g s = at_or (Abs 0) (map (λ (x : GSym). x.place) g.symbols) s

-- the first upper edge that stands at the label that a paired edge refers to
abbrev pub paired_with : LinkGraph → Edge → Option Edge
paired_with g e = find (λ (h : Edge). is_upper h.kind && is_at (place_of g e.target) h) g.edges

-- the value of an edge; that of PCREL_LO12 is its pair's
abbrev pub edge_value : LinkGraph → Layout → ℕ → (ℕ → ℕ) → Edge → ℤ
edge_value g l base address e =
    if is_paired e.kind then option_map_or (lone_value l base address) (paired_with g e) (pos 0)
    else lone_value l base address e

abbrev pub edge_write : LinkGraph → Layout → ℕ → (ℕ → ℕ) → Edge → Write
edge_write g l base address e = record { at = edge_offset l e; kind = e.kind; value = edge_value g l base address e }

abbrev pub KIND_64 : ℕ
KIND_64 = 2

abbrev pub KIND_CALL : ℕ
KIND_CALL = 18

-- a cell holds its symbol's address
abbrev pub cell_write : (ℕ → ℕ) → ℕ × ℕ → Write
cell_write address p = record { at = p.1; kind = KIND_64; value = pos (address p.0) }

-- a stub loads from its symbol's cell
abbrev pub stub_write : Layout → ℕ × ℕ → Write
stub_write l p = record { at = p.1; kind = KIND_CALL; value = pos (unwrap_or (offset_of l.cells p.0) 0) -ℤ pos p.1 }

-- the writes of a unit: cells, stubs, and the edges in file order
abbrev pub writes : LinkGraph → Layout → ℕ → (ℕ → ℕ) → List Write
writes g l base address =
    map (cell_write address) l.cells ++ map (stub_write l) l.stubs ++ map (edge_write g l base address) g.edges

-- The raw bytes: the blocks' bytes and the stubs' words at their offsets, zeros elsewhere

-- auipc t3, 0; ld t3, 0(t3); jalr t1, t3; nop
abbrev pub stub_bytes : List ℕ
stub_bytes = to_le_bytes w32 0x00000E17 ++ to_le_bytes w32 0x000E3E03 ++ to_le_bytes w32 0x000E0367 ++ to_le_bytes w32 0x00000013

abbrev pub pieces : LinkGraph → Layout → List (ℕ × List ℕ)
pieces g l = zip l.blocks (map (λ (b : Block). b.bytes) g.blocks) ++ map (λ (p : ℕ × ℕ). (p.1, stub_bytes)) l.stubs

abbrev pub raw_byte : List (ℕ × List ℕ) → ℕ → ℕ
raw_byte [] place = 0
raw_byte (p ∷ ps) place = if nat_le p.0 place && nat_lt place (p.0 + length p.1) then slice_index p.1 (place - p.0) else raw_byte ps place

-- the first n bytes, as a list
abbrev pub listed : ℕ → ℕ → (ℕ → ℕ) → List ℕ
listed at zero bytes = []
listed at (suc n) bytes = bytes at ∷ listed (at + 1) n bytes

-- What the unit is told

-- a symbol's address: its block's and its value, its own where it is absolute, and that of another
-- unit's as bound; 0 where nothing is bound
abbrev pub own_address : Layout → ℕ → GPlace → ℕ
own_address l base (In block offset) = base + at_or 0 l.blocks block + offset
own_address l base (Abs address) = address
own_address l base (External weak) = 0

abbrev pub bound_address : List ℕ → List (Option ℕ) → ℕ → Option ℕ
bound_address [] bound s = None
bound_address (x ∷ xs) [] s = None
bound_address (x ∷ xs) (b ∷ bs) s = if x == s then Some (unwrap_or b 0) else bound_address xs bs s

abbrev pub told_address : LinkGraph → Layout → ℕ → List (Option ℕ) → ℕ → ℕ
told_address g l base bound s = unwrap_or (bound_address l.externals bound s) (own_address l base (place_of g s))

-- the image of a unit, at a base and with these bindings
abbrev pub image_bytes : LinkGraph → Layout → ℕ → List (Option ℕ) → ℕ → ℕ
image_bytes g l base bound = all_written (writes g l base (told_address g l base bound)) (raw_byte (pieces g l))

abbrev pub image_of : LinkGraph → Layout → ℕ → List (Option ℕ) → List ℕ
image_of g l base bound = listed 0 l.shape.need (image_bytes g l base bound)

-- the place, kind and value of the first edge, in file order, whose value is out of its range
abbrev pub edge_in_range : Edge → ℤ → Bool
edge_in_range e v = option_map_or (λ rule. in_span rule.span v) (row_of e.kind) true

abbrev pub first_refused : LinkGraph → Layout → ℕ → (ℕ → ℕ) → List Edge → Option (Place × ℕ × ℤ)
first_refused g l base address [] = None
first_refused g l base address (e ∷ es) =
    if edge_in_range e (edge_value g l base address e) then first_refused g l base address es
    else Some (record { block = e.block; offset = e.offset }, e.kind, edge_value g l base address e)

abbrev pub refused_edge : LinkGraph → Layout → ℕ → List (Option ℕ) → Option (Place × ℕ × ℤ)
refused_edge g l base bound = first_refused g l base (told_address g l base bound) g.edges
