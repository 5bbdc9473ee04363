-- What is found once for all checks of a file.
use Rattle.std.specs.Prelude.{◌≡◌, ◌≢◌, ℕ, zero, suc, ◌+◌, ◌*◌, ◌<◌, ◌≤◌, Bool, ◌&&◌, ◌||◌, nat_lt, nat_le, List, length, get_or, map, count_by, Option, if◌then◌else◌}
use Rattle.elf_read.specs.declared.spans.Span.{Span}
use Rattle.elf_read.specs.Choice.{any_below}
use Rattle.elf_read.specs.File.{File, section, contents}
use Rattle.elf_read.specs.Sections.{symtab_of, symtab, rela_of, takes_bytes}
use Rattle.elf_read.specs.Symbols.{numbers, kept_below}

-- the symbol table's number, and for each section that of its relocations and how many kept sections
-- stand before it
pub record IsIndex (f : File) (symtab : Option ℕ) (relas : List (Option ℕ)) (kept : List ℕ) : Type 0 where
  pub symtab_is : symtab ≡ symtab_of f
  pub relas_are : relas ≡ map (rela_of f) (numbers f.count)
  pub kept_are : kept ≡ map (λ i. length (kept_below f i)) (numbers f.count)

-- the bytes of the table of the sections' names, and of that of the symbols' names
abbrev pub section_strings : File → List ℕ
section_strings f = contents f.bytes (section f f.names)

abbrev pub symbol_strings : File → List ℕ
symbol_strings f = contents f.bytes (section f (symtab f).link)

-- a byte of a range, which is given by its start and size
abbrev pub within : ℕ → ℕ → ℕ → Bool
within start size place = nat_le start place && nat_lt place (start + size)

-- a byte of the header, of the section table or of a section below i that takes it
unfoldable pub is_owned : File → ℕ → ℕ → Bool
is_owned f i place =
    (within 0 64 place || within f.table (64 * f.count) place)
    || any_below i (λ k. takes_bytes f k && within (section f k).offset (section f k).size place)

-- whether a section takes a byte, as a number
abbrev pub taken_by : File → ℕ → ℕ → ℕ
taken_by f i place = if takes_bytes f i && within (section f i).offset (section f i).size place then 1 else 0

-- how many take a byte: the header, the section table and the sections below i
unfoldable pub takers : File → ℕ → ℕ → ℕ
takers f zero place = (if within 0 64 place then 1 else 0) + (if within f.table (64 * f.count) place then 1 else 0)
takers f (suc i) place = takers f i place + taken_by f i place

-- how many of the spans have a byte
abbrev pub spans_at : List Span → ℕ → ℕ
spans_at spans place = count_by (λ (s : Span). within s.start s.size place) spans

-- no byte is in two of the spans
abbrev pub LieApart : List Span → Type 0
LieApart spans = (place : ℕ) → spans_at spans place ≤ 1

-- a byte is in two of them
abbrev pub ShareByte : List Span → Type 0
ShareByte spans = (place : ℕ) × (2 ≤ spans_at spans place)

-- the first zero byte from a place on is at this place
pub record IsEnd (bytes : List ℕ) (start place : ℕ) : Type 0 where
  pub past : start ≤ place
  pub inside : place < length bytes
  pub zero : get_or bytes place 0 ≡ 0
  pub none : (k : ℕ) → start ≤ k → k < place → get_or bytes k 0 ≢ 0

-- there is none
abbrev pub HasNoEnd : List ℕ → ℕ → Type 0
HasNoEnd bytes start = (k : ℕ) → start ≤ k → k < length bytes → get_or bytes k 0 ≢ 0

-- of the bytes that were seen, for each block of 64 up to the last zero byte the first one at or past its start
pub record AreEnds (bytes : List ℕ) (seen : ℕ) (ends : List ℕ) : Type 0 where
  pub ended : (k : ℕ) → k < length ends → IsEnd bytes (64 * k) (get_or ends k 0)
  pub after : (k : ℕ) → 64 * length ends ≤ k → k < seen → get_or bytes k 0 ≢ 0
