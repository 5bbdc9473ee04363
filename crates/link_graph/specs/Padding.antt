-- What is deleted of the padding that ALIGN stands for, and the object without it (RISC-V ELF psABI,
-- "Alignment Relaxation"). An assembler that leaves relaxation to the linker puts as much padding
-- before an aligned place as that place may need, and an ALIGN there whose addend is its length; the
-- linker deletes what the place doesn't need.
use Rattle.std.specs.Prelude.{◌≡◌, ℕ, zero, suc, ◌+◌, ◌-◌, ◌*◌, ◌%◌, ◌<◌, ◌≤◌, ◌⊎◌, min, max, Bool, ◌&&◌, ◌==◌, nat_lt, nat_le, ℤ, pos, negsuc, List, [], ◌∷◌, ◌++◌, length, slice_index, map, take, drop, fold, Option, Some, None, if◌then◌else◌}
use Rattle.std.specs.List.{All}
use Rattle.std.specs.Option.{option_map_or}
use Rattle.elf_read.specs.declared.object.ElfObject.{ElfObject}
use Rattle.elf_read.specs.declared.object.Reloc.{Reloc}
use Rattle.elf_read.specs.declared.object.Section.{Section}
use Rattle.elf_read.specs.declared.object.SymPlace.{SymPlace}
use Rattle.elf_read.specs.declared.object.SymPlace.TheVariants.{In}
use Rattle.elf_read.specs.declared.object.Symbol.{Symbol}
use Rattle.link_model.specs.Image.{at_or}
use Rattle.link_graph.specs.declared.cuts.Cut.{Cut}

abbrev pub ALIGN : ℕ
ALIGN = 43

abbrev pub is_align : Reloc → Bool
is_align r = r.kind == ALIGN

-- the greatest boundary that can be asked for
abbrev pub MAX_BOUNDARY : ℕ
MAX_BOUNDARY = 4096

-- the least of p, 2 p, 4 p and so on that is greater
unfoldable pub power_above : ℕ → ℕ → ℕ → ℕ
power_above zero p a = p
power_above (suc k) p a = if nat_lt a p then p else power_above k (2 * p) a

-- the boundary of an ALIGN: the least power of two greater than its addend
abbrev pub boundary : ℕ → ℕ
boundary a = power_above 64 1 a

-- the length of an ALIGN's padding; a negative addend is none
abbrev pub padding : ℤ → ℕ
padding (pos a) = a
padding (negsuc k) = 0

-- how much padding a place needs: the least number that leads to a multiple of the boundary
abbrev pub needed : ℕ → ℕ → ℕ
needed at boundary = (boundary - at % boundary) % boundary

-- The cut of an ALIGN at a place: the bytes of its padding beyond those that are needed. The cuts
-- before it end at `end`, and delete `before` bytes. There is none where the padding isn't a part of
-- the section from `end` on, its boundary is too great, or it is shorter than what is needed.
abbrev pub cut_of : ℕ → ℕ → ℕ → ℕ → ℤ → Option Cut
cut_of size end before at (negsuc k) = None
cut_of size end before at (pos a) =
    if nat_le end at && nat_le (at + a) size && nat_le (boundary a) MAX_BOUNDARY && nat_le (needed (at - before) (boundary a)) a
    then Some (record { from = at + needed (at - before) (boundary a); to = at + a; before = before; boundary = boundary a })
    else None

-- the cuts of the ALIGNs of a table, up to the first that has none
abbrev pub cuts_from : ℕ → ℕ → ℕ → List Reloc → List Cut
cuts_from size end before [] = []
cuts_from size end before (r ∷ rs) =
    if is_align r then option_map_or (λ cut. cut ∷ cuts_from size cut.to (before + (cut.to - cut.from)) rs) (cut_of size end before r.at r.addend) []
    else cuts_from size end before rs

abbrev pub cuts_of : Section → List Cut
cuts_of s = cuts_from s.size 0 0 s.relocs

-- how many deleted bytes lie before a place
abbrev pub deleted : List Cut → ℕ → ℕ
deleted [] at = 0
deleted (c ∷ cs) at = min (at - c.from) (c.to - c.from) + deleted cs at

-- where a place of the file is after deletion; a place inside a cut is then at its start
abbrev pub moved : List Cut → ℕ → ℕ
moved cuts at = at - deleted cuts at

-- the bytes from a place on that lie in no cut
abbrev pub kept_bytes : ℕ → List Cut → List ℕ → List ℕ
kept_bytes from [] bytes = drop from bytes
kept_bytes from (c ∷ cs) bytes = take (c.from - from) (drop from bytes) ++ kept_bytes c.to cs bytes

-- What deletion is for: what is kept of each padding leads to a multiple of its boundary, and each byte
-- that lies in no cut stands at its moved place.

abbrev pub AreMet : List Cut → Type 0
AreMet cuts = All (λ (c : Cut). moved cuts c.from % c.boundary ≡ 0) cuts

abbrev pub IsKept : List Cut → ℕ → Type 0
IsKept cuts at = All (λ (c : Cut). (at < c.from) ⊎ (c.to ≤ at)) cuts

abbrev pub Keeps : List Cut → List ℕ → List ℕ → Type 0
Keeps cuts bytes kept = (at : ℕ) → at < length bytes → IsKept cuts at → slice_index kept (moved cuts at) ≡ slice_index bytes at

-- the greatest of an alignment and the boundaries
abbrev pub raised : ℕ → List Cut → ℕ
raised align cuts = fold (λ align (c : Cut). max align c.boundary) align cuts

-- The object after deletion. An ALIGN has the length of what is kept of its padding as its addend;
-- other addends stay.

abbrev pub trimmed_addend : List Cut → Reloc → ℤ
trimmed_addend cuts r = if is_align r then pos (needed (moved cuts r.at) (boundary (padding r.addend))) else r.addend

abbrev pub trimmed_reloc : List Cut → Reloc → Reloc
trimmed_reloc cuts r = record { at = moved cuts r.at; kind = r.kind; symbol = r.symbol; addend = trimmed_addend cuts r }

abbrev pub trimmed_by : List Cut → Section → Section
trimmed_by cuts s = record {
  name = s.name;
  kind = s.kind;
  flags = s.flags;
  align = raised s.align cuts;
  size = moved cuts s.size;
  bytes = kept_bytes 0 cuts s.bytes;
  relocs = map (trimmed_reloc cuts) s.relocs;
}

abbrev pub trimmed_section : Section → Section
trimmed_section s = trimmed_by (cuts_of s) s

abbrev pub trimmed_value : List (List Cut) → ℕ → SymPlace → ℕ
trimmed_value cuts value (In section) = moved (at_or [] cuts section) value
trimmed_value cuts value _ = value

abbrev pub trimmed_symbol : List (List Cut) → Symbol → Symbol
trimmed_symbol cuts s = record {
  name = s.name;
  bind = s.bind;
  kind = s.kind;
  vis = s.vis;
  place = s.place;
  value = trimmed_value cuts s.value s.place;
  size = s.size;
}

abbrev pub all_cuts : List Section → List (List Cut)
all_cuts sections = map cuts_of sections

abbrev pub trimmed : ElfObject → ElfObject
trimmed o = record { sections = map trimmed_section o.sections; symbols = map (trimmed_symbol (all_cuts o.sections)) o.symbols }
