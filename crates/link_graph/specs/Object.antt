-- The graph of an object: its kept sections and common symbols as blocks, its symbols, and its
-- relocations as edges (System V gABI, "Symbol Table"; RISC-V ELF psABI, "Relocations").
use Rattle.std.specs.Prelude.{ℕ, ◌+◌, Bool, true, false, ◌&&◌, ◌||◌, ◌==◌, not, List, [], ◌∷◌, ◌++◌, length, map, filter, Option, None, option_map, if◌then◌else◌}
use Rattle.std.specs.List.{position_from}
use Rattle.std.specs.Str.{bytes_eq}
use Rattle.orc_ids.specs.declared.flags.SymFlags.{SymFlags}
use Rattle.orc_ids.specs.declared.ids.NameId.{NameId}
use Rattle.elf_read.specs.declared.object.ElfObject.{ElfObject}
use Rattle.elf_read.specs.declared.object.Reloc.{Reloc}
use Rattle.elf_read.specs.declared.object.Section.{Section}
use Rattle.elf_read.specs.declared.object.SymPlace.{SymPlace}
use Rattle.elf_read.specs.declared.object.SymPlace.TheVariants as place
use Rattle.elf_read.specs.declared.object.Symbol.{Symbol}
use Rattle.link_model.specs.declared.graph.Block.{Block}
use Rattle.link_model.specs.declared.graph.Edge.{Edge}
use Rattle.link_model.specs.declared.graph.GPlace.{GPlace}
use Rattle.link_model.specs.declared.graph.GPlace.TheVariants.{In, Abs, External}
use Rattle.link_model.specs.declared.graph.GSym.{GSym}
use Rattle.link_model.specs.declared.graph.LinkGraph.{LinkGraph}

-- SHT_NOBITS
abbrev pub is_nobits : Section → Bool
is_nobits s = s.kind == 8

-- STB_LOCAL, STB_WEAK, STT_FUNC
abbrev pub is_local : Symbol → Bool
is_local s = s.bind == 0

abbrev pub is_weak : Symbol → Bool
is_weak s = s.bind == 2

abbrev pub is_function : Symbol → Bool
is_function s = s.kind == 2

-- STV_DEFAULT and STV_PROTECTED
abbrev pub is_exported : Symbol → Bool
is_exported s = s.vis == 0 || s.vis == 3

abbrev pub is_common : SymPlace → Bool
is_common place.Common = true
is_common _ = false

abbrev pub is_passed : SymPlace → Bool
is_passed place.Passed = true
is_passed _ = false

-- Blocks: the sections in order, then a block of zeros for each common symbol, whose value is its
-- alignment

abbrev pub section_block : Section → Block
section_block s = record { bytes = s.bytes; size = s.size; align = s.align }

abbrev pub common_block : Symbol → Block
common_block s = record { bytes = []; size = s.size; align = s.value }

abbrev pub common_symbols : List Symbol → List Symbol
common_symbols ss = filter (λ (s : Symbol). is_common s.place) ss

abbrev pub blocks_of : ElfObject → List Block
blocks_of o = map section_block o.sections ++ map common_block (common_symbols o.symbols)

-- Symbols. The next common block has number `common`.

abbrev pub graph_place : ℕ → Symbol → SymPlace → GPlace
graph_place common s place.Undef = External (is_weak s)
graph_place common s place.Abs = Abs s.value
graph_place common s place.Common = In common 0
graph_place common s (place.In section) = In section s.value
graph_place common s place.Passed = Abs 0

-- a symbol that isn't local, nor passed over
abbrev pub is_global : Symbol → Bool
is_global s = not (is_local s) && not (is_passed s.place)

abbrev pub graph_flags : Symbol → SymFlags
graph_flags s = record {
  weak = not (is_passed s.place) && is_weak s;
  common = is_common s.place;
  exported = not (is_passed s.place) && is_exported s;
  callable = not (is_passed s.place) && is_function s;
}

-- the number of a text among the interned ones
abbrev pub name_number : List (List ℕ) → List ℕ → Option NameId
name_number names text = option_map (λ k. record { 0 = k }) (position_from (bytes_eq text) 0 names)

-- the number of a symbol's name, where other units may see the symbol
abbrev pub own_number : List (List ℕ) → Symbol → Option NameId
own_number names s = if is_global s then name_number names s.name else None

abbrev pub graph_symbol : List (List ℕ) → ℕ → Symbol → GSym
graph_symbol names common s = record {
  name = own_number names s;
  place = graph_place common s s.place;
  flags = graph_flags s;
  global = is_global s;
}

abbrev pub graph_symbols : List (List ℕ) → ℕ → List Symbol → List GSym
graph_symbols names common [] = []
graph_symbols names common (s ∷ ss) = graph_symbol names common s ∷ graph_symbols names (if is_common s.place then common + 1 else common) ss

-- Edges: the relocations in order of sections and then of entries. NONE and RELAX make none.

abbrev pub is_mark : Reloc → Bool
is_mark r = r.kind == 0 || r.kind == 51

abbrev pub edge_of : ℕ → Reloc → Edge
edge_of block r = record { block = block; offset = r.at; kind = r.kind; target = r.symbol; addend = r.addend }

abbrev pub section_edges : ℕ → Section → List Edge
section_edges block s = map (edge_of block) (filter (λ (r : Reloc). not (is_mark r)) s.relocs)

abbrev pub edges_from : ℕ → List Section → List Edge
edges_from block [] = []
edges_from block (s ∷ ss) = section_edges block s ++ edges_from (block + 1) ss

-- the graph of an object, by the texts that are interned
abbrev pub graph_of_parts : List (List ℕ) → ElfObject → LinkGraph
graph_of_parts names o = record {
  blocks = blocks_of o;
  symbols = graph_symbols names (length o.sections) o.symbols;
  edges = edges_from 0 o.sections;
}
