-- Which objects have a graph, and the first check that fails.
use Rattle.std.specs.Prelude.{◌≡◌, ℕ, ◌+◌, Bool, true, false, ◌&&◌, ◌||◌, ◌==◌, not, nat_lt, ℤ, pos, negsuc, List, [], ◌∷◌, length, filter, sum_by, slice_get, Option, Some, None, is_none, Result, Ok, Err, if◌then◌else◌}
use Rattle.std.specs.Option.{option_map_or}
use Rattle.orc_ids.specs.declared.place.Place.{Place}
use Rattle.elf_read.specs.declared.object.ElfObject.{ElfObject}
use Rattle.elf_read.specs.declared.object.Reloc.{Reloc}
use Rattle.elf_read.specs.declared.object.Section.{Section}
use Rattle.elf_read.specs.declared.object.Symbol.{Symbol}
use Rattle.link_model.specs.Image.{is_paired, paired_with, place_of}
use Rattle.link_model.specs.Kinds.{row_of}
use Rattle.link_model.specs.Sound.{MAX_BLOCKS, MAX_SYMBOLS, MAX_EDGES, MAX_BYTES}
use Rattle.link_model.specs.declared.graph.GPlace.{GPlace}
use Rattle.link_model.specs.declared.graph.GPlace.TheVariants.{In}
use Rattle.link_model.specs.declared.graph.LinkGraph.{LinkGraph}
use Rattle.link_graph.specs.Object.{is_nobits, is_passed, is_mark, common_symbols, edge_of, graph_of_parts}
use Rattle.link_graph.specs.Padding.{is_align, padding, cut_of, cuts_of, deleted, trimmed}
use Rattle.link_graph.specs.declared.cuts.Cut.{Cut}
use Rattle.link_graph.specs.declared.error.GraphError.{GraphError}
use Rattle.link_graph.specs.declared.error.GraphError.TheVariants.{UnknownReloc, RelocOutside, TlsOrIfunc, BadPair, NeedsAlign, TooMany, NoMemory}

-- the first of two that is there, and the first of a list
abbrev pub or_else : {X : Type 0} → Option X → Option X → Option X
or_else None other = other
or_else (Some x) other = Some x

abbrev pub first_error : {X : Type 0} → (X → Option GraphError) → List X → Option GraphError
first_error check [] = None
first_error check (x ∷ xs) = or_else (check x) (first_error check xs)

-- More than a unit may have, by the counts and sizes of the file: sections and common symbols,
-- symbols, relocations that are no marks, and bytes.

abbrev pub edge_count : List Section → ℕ
edge_count sections = sum_by (λ (s : Section). length (filter (λ (r : Reloc). not (is_mark r)) s.relocs)) sections

abbrev pub byte_count : ElfObject → ℕ
byte_count o = sum_by (λ (s : Section). s.size) o.sections + sum_by (λ (s : Symbol). s.size) (common_symbols o.symbols)

abbrev pub is_too_large : ElfObject → Bool
is_too_large o =
    nat_lt MAX_BLOCKS (length o.sections + length (common_symbols o.symbols)) || nat_lt MAX_SYMBOLS (length o.symbols)
    || nat_lt MAX_EDGES (edge_count o.sections) || nat_lt MAX_BYTES (byte_count o)

-- Symbols of type STT_TLS and STT_GNU_IFUNC, from number k on

abbrev pub symbol_error : ℕ → List Symbol → Option GraphError
symbol_error k [] = None
symbol_error k (s ∷ ss) = if s.kind == 6 || s.kind == 10 then Some (TlsOrIfunc k) else symbol_error (k + 1) ss

-- Relocations

abbrev pub reloc_place : ℕ → Reloc → Place
reloc_place block r = record { block = block; offset = r.at }

abbrev pub is_passed_symbol : List Symbol → ℕ → Bool
is_passed_symbol symbols k = option_map_or (λ (s : Symbol). is_passed s.place) (slice_get symbols k) false

-- An ALIGN needs a cut. The ALIGN before it in the table ends at `end`.
abbrev pub align_error : Section → List Cut → ℕ → Reloc → Place → Option GraphError
align_error s cuts end r place = if is_none (cut_of s.size end (deleted cuts r.at) r.at r.addend) then Some (NeedsAlign place) else None

-- some of so many bytes from a place on are deleted
abbrev pub meets_cut : List Cut → ℕ → ℕ → Bool
meets_cut cuts at width = nat_lt (deleted cuts at) (deleted cuts (at + width))

-- the bytes of another relocation lie in its section, and none of them is deleted
abbrev pub width_error : Section → List Cut → Reloc → Place → ℕ → Option GraphError
width_error s cuts r place width = if nat_lt s.size (r.at + width) || meets_cut cuts r.at width then Some (RelocOutside place) else None

abbrev pub reloc_error : List Symbol → ℕ → Section → List Cut → ℕ → Reloc → Option GraphError
reloc_error symbols block s cuts end r = option_map_or
    (λ rule.
    if is_mark r then None
    else (if is_nobits s || is_passed_symbol symbols r.symbol then Some (RelocOutside (reloc_place block r))
    else (if is_align r then align_error s cuts end r (reloc_place block r)
    else width_error s cuts r (reloc_place block r) rule.width)))
    (row_of r.kind)
    (Some (UnknownReloc r.kind (reloc_place block r)))

-- where the padding of the ALIGNs so far ends
abbrev pub end_after : ℕ → Reloc → ℕ
end_after end r = if is_align r then r.at + padding r.addend else end

abbrev pub table_error : List Symbol → ℕ → Section → List Cut → ℕ → List Reloc → Option GraphError
table_error symbols block s cuts end [] = None
table_error symbols block s cuts end (r ∷ rs) = or_else (reloc_error symbols block s cuts end r) (table_error symbols block s cuts (end_after end r) rs)

abbrev pub section_error : List Symbol → ℕ → Section → Option GraphError
section_error symbols block s = table_error symbols block s (cuts_of s) 0 s.relocs

-- in order of sections, from number `block` on, and then of entries
abbrev pub relocs_error : List Symbol → ℕ → List Section → Option GraphError
relocs_error symbols block [] = None
relocs_error symbols block (s ∷ ss) = or_else (section_error symbols block s) (relocs_error symbols (block + 1) ss)

-- Pairs: a PCREL_LO12 has no addend, and an upper edge stands at its label. Both are looked for after
-- deletion, and the place that is told is that of the file.

abbrev pub is_zero : ℤ → Bool
is_zero (pos a) = a == 0
is_zero (negsuc a) = false

abbrev pub is_in_block : GPlace → Bool
is_in_block (In block offset) = true
is_in_block _ = false

abbrev pub pair_error : LinkGraph → ℕ → Reloc → Option GraphError
pair_error g block r =
    if is_paired r.kind && not (is_zero r.addend && is_in_block (place_of g r.symbol) && not (is_none (paired_with g (edge_of block r))))
    then Some (BadPair (reloc_place block r))
    else None

-- the first error of the sections' relocations, from number `block` on
abbrev pub error_among : (ℕ → Reloc → Option GraphError) → ℕ → List Section → Option GraphError
error_among check block [] = None
error_among check block (s ∷ ss) = or_else (first_error (check block) s.relocs) (error_among check (block + 1) ss)

-- the first check that an object fails, whose graph this is
abbrev pub first_failed : LinkGraph → ElfObject → Option GraphError
first_failed g o =
    or_else (if is_too_large o then Some TooMany else None)
    (or_else (symbol_error 0 o.symbols)
    (or_else (relocs_error o.symbols 0 o.sections)
    (error_among (pair_error g) 0 o.sections)))

-- the graph of an object after deletion, or the first check that the object fails
abbrev pub graph_of_object : List (List ℕ) → ElfObject → Result LinkGraph GraphError
graph_of_object names o =
    let g = graph_of_parts names (trimmed o) in option_map_or Err (first_failed g o) (Ok g)

-- a maker's answer is this one, unless memory ran out
abbrev pub Fails : GraphError → Result LinkGraph GraphError → Type 0
Fails NoMemory answer = Unit {0}
Fails e answer = answer ≡ Err e

abbrev pub Makes : Result LinkGraph GraphError → Result LinkGraph GraphError → Type 0
Makes (Ok g) answer = answer ≡ Ok g
Makes (Err e) answer = Fails e answer
