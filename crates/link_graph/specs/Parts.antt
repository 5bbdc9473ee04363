-- The parts of a graph that are made and checked one by one.
use Rattle.std.specs.Prelude.{◌≡◌, ℕ, ◌+◌, ◌-◌, ◌≤◌, Bool, false, ◌&&◌, ◌==◌, not, List, [], ◌∷◌, length, map, find, Option, Some, None, is_none, if◌then◌else◌, ⊤}
use Rattle.std.specs.List.{list_any}
use Rattle.elf_read.specs.declared.object.ElfObject.{ElfObject}
use Rattle.elf_read.specs.declared.object.Reloc.{Reloc}
use Rattle.elf_read.specs.declared.object.Section.{Section}
use Rattle.elf_read.specs.declared.object.Symbol.{Symbol}
use Rattle.link_model.specs.Image.{at_or, is_paired, is_upper, is_at}
use Rattle.link_model.specs.declared.graph.Edge.{Edge}
use Rattle.link_model.specs.declared.graph.GPlace.{GPlace}
use Rattle.link_model.specs.declared.graph.GPlace.TheVariants.{In, Abs}
use Rattle.link_model.specs.Sound.{MAX_BLOCKS, MAX_SYMBOLS}
use Rattle.link_graph.specs.Object.{is_common, graph_place, edges_from}
use Rattle.link_graph.specs.Padding.{all_cuts, trimmed_section, trimmed_symbol}
use Rattle.link_graph.specs.Checks.{or_else, is_too_large, symbol_error, reloc_place, relocs_error, is_zero, is_in_block, error_among}
use Rattle.link_graph.specs.declared.cuts.Cut.{Cut}
use Rattle.link_graph.specs.declared.error.GraphError.{GraphError}
use Rattle.link_graph.specs.declared.error.GraphError.TheVariants.{BadPair, TooMany, NoMemory}
use Rattle.link_graph.specs.declared.pairs.Label.{Label}

-- where memory may run out, what a check answers is the refusal that there is
abbrev pub Refuses : GraphError → Option GraphError → Type 0
Refuses NoMemory refusal = Unit {0}
Refuses e refusal = refusal ≡ Some e

-- the places of the symbols. The next common block has number `common`.
abbrev pub graph_places : ℕ → List Symbol → List GPlace
graph_places common [] = []
graph_places common (s ∷ ss) = graph_place common s s.place ∷ graph_places (if is_common s.place then common + 1 else common) ss

-- an upper edge stands at a place
abbrev pub is_upper_at : ℕ → ℕ → Edge → Bool
is_upper_at block offset h = is_upper h.kind && (h.block == block && h.offset == offset)

abbrev pub stands_at : List Edge → ℕ → ℕ → Bool
stands_at edges block offset = list_any (is_upper_at block offset) edges

abbrev pub has_label : List Label → ℕ → ℕ → Bool
has_label labels block offset = list_any (λ (l : Label). block == l.block && offset == l.offset) labels

-- the labels are the places of the upper edges
abbrev pub AreUppers : List Label → List Edge → Type 0
AreUppers labels edges = (block offset : ℕ) → has_label labels block offset ≡ stands_at edges block offset

abbrev pub is_labelled : List Label → GPlace → Bool
is_labelled labels (In block offset) = has_label labels block offset
is_labelled labels _ = false

-- the check of a paired relocation, by the labels
abbrev pub label_error : List Label → List GPlace → ℕ → Reloc → Option GraphError
label_error labels places block r =
    if is_paired r.kind && not (is_zero r.addend && is_labelled labels (at_or (Abs 0) places r.symbol))
    then Some (BadPair (reloc_place block r))
    else None

-- the check of a paired relocation, by the places of the symbols and the edges
abbrev pub place_error : List GPlace → List Edge → ℕ → Reloc → Option GraphError
place_error places edges block r =
    if is_paired r.kind
    && not (is_zero r.addend && is_in_block (at_or (Abs 0) places r.symbol) && not (is_none (find (λ (h : Edge). is_upper h.kind && is_at (at_or (Abs 0) places r.symbol) h) edges)))
    then Some (BadPair (reloc_place block r))
    else None

-- the places of the symbols of an object after deletion
abbrev pub trimmed_places : ElfObject → List GPlace
trimmed_places o = graph_places (length o.sections) (map (trimmed_symbol (all_cuts o.sections)) o.symbols)

-- the edges of an object after deletion, from block number `block` on
abbrev pub trimmed_edges : ℕ → List Section → List Edge
trimmed_edges block sections = edges_from block (map trimmed_section sections)

-- the first check that an object fails, whatever its symbols' numbers are
abbrev pub failed_check : ElfObject → Option GraphError
failed_check o =
    or_else (if is_too_large o then Some TooMany else None)
    (or_else (symbol_error 0 o.symbols)
    (or_else (relocs_error o.symbols 0 o.sections)
    (error_among (place_error (trimmed_places o) (trimmed_edges 0 o.sections)) 0 o.sections)))

-- few enough sections and symbols
pub record IsSmall (o : ElfObject) : Type 0 where
  pub sections : length o.sections ≤ MAX_BLOCKS
  pub symbols : length o.symbols ≤ MAX_SYMBOLS

-- Each cut starts where the one before it ends or later, and counts the bytes deleted before it.
abbrev pub InTurn : ℕ → ℕ → List Cut → Type 0
InTurn end before [] = ⊤
InTurn end before (c ∷ cs) = (end ≤ c.from) × (c.from ≤ c.to) × (c.before ≡ before) × InTurn c.to (before + (c.to - c.from)) cs
