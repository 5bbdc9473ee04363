-- The objects that a file of this layout holds whole, where it is shorter than 4 GiB: no check of a reader
-- refuses them, and each number fits its field.
use Rattle.std.specs.Prelude.{◌≡◌, ◌≢◌, ℕ, ◌+◌, ◌<◌, ◌≤◌, ◌^◌, ◌==◌, ◌++◌, not, true, false, List, [], length, drop, map, All, slice_get, slice_index_or, Some, ⊤, if◌then◌else◌}
use Rattle.std.specs.List.{IsDistinct, filter, list_any}
use Rattle.std.specs.Str.{bytes_eq}
use Rattle.orc_words.specs.Bits.{bits_at, fits_bits}
use Rattle.elf_read.specs.declared.object.ElfObject.{ElfObject}
use Rattle.elf_read.specs.declared.object.Reloc.{Reloc}
use Rattle.elf_read.specs.declared.object.Section.{Section}
use Rattle.elf_read.specs.declared.object.SymPlace.{SymPlace}
use Rattle.elf_read.specs.declared.object.SymPlace.TheVariants.{Undef, Abs, Common, In, Passed}
use Rattle.elf_read.specs.declared.object.Symbol.{Symbol}
use Rattle.elf_read.specs.Gabi.{sht_nobits, shf_alloc, shf_tls, shf_compressed, shn_abs, shn_common, shn_xindex, stb_local, stb_weak}
use Rattle.elf_read.specs.Sections.{is_placed_kind, is_small_power}
use Rattle.elf_read.specs.Symbols.{symbol_zero, is_bad_name}
use Rattle.elf_write.specs.Files.{symtab_number}
use Rattle.elf_write.specs.Tables.{is_local}

-- a name that a zero byte ends
abbrev pub IsText : List ℕ → Type 0
IsText name = list_any (λ b. b == 0) name ≡ false

-- ---- sections

-- it names one of so many symbols
pub record HoldsReloc (symbols : ℕ) (r : Reloc) : Type 0 where
  pub at_in : r.at < 2 ^ 64
  pub kind_in : r.kind < 2 ^ 32
  pub symbol_in : r.symbol < symbols
  pub addend_in : fits_bits 64 r.addend ≡ true

-- a section that is kept, with as many bytes as its size says, or none where they are zeros
pub record HoldsSection (symbols : ℕ) (s : Section) : Type 0 where
  pub named : IsText s.name
  pub kind_in : is_placed_kind s.kind ≡ true
  pub flags_in : s.flags < 2 ^ 64
  pub allocated : bits_at shf_alloc 1 s.flags ≡ 1
  pub no_tls : bits_at shf_tls 1 s.flags ≡ 0
  pub not_compressed : bits_at shf_compressed 1 s.flags ≡ 0
  pub aligned : is_small_power s.align ≡ true
  pub size_in : s.size < 2 ^ 64
  pub bytes_are : length s.bytes ≡ (if s.kind == sht_nobits then 0 else s.size)
  pub relocs_in : All (HoldsReloc symbols) s.relocs

-- ---- symbols

abbrev pub size_at : List Section → ℕ → ℕ
size_at sections n = (slice_index_or sections n (record { name = []; kind = 0; flags = 0; align = 1; size = 0; bytes = []; relocs = [] })).size

-- where a symbol of this binding may lie; a section's number in the file is one more, and means that section
abbrev pub Lies : List Section → ℕ → ℕ → ℕ → SymPlace → Type 0
Lies sections bind value size Undef = bind ≢ stb_local
Lies sections bind value size Abs = ⊤
Lies sections bind value size Common = (bind ≢ stb_local) × (is_small_power value ≡ true) × (size ≤ 2 ^ 24)
Lies sections bind value size (In n) = (n < length sections) × (value ≤ size_at sections n) × (n + 1 ≢ shn_abs) × (n + 1 ≢ shn_common)
Lies sections bind value size Passed = ⊥

pub record HoldsSymbol (sections : List Section) (s : Symbol) : Type 0 where
  pub named : IsText s.name
  pub short : length s.name ≤ 4096
  pub bind_in : s.bind ≤ stb_weak
  pub kind_in : s.kind < 16
  pub vis_in : s.vis < 4
  pub value_in : s.value < 2 ^ 64
  pub size_in : s.size < 2 ^ 64
  pub lies : Lies sections s.bind s.value s.size s.place
  pub visible : s.bind ≢ stb_local → is_bad_name s.name ≡ false

-- ---- the object

abbrev pub others : List Symbol → List Symbol
others symbols = filter (λ s. not (is_local s)) symbols

pub record Canonical (o : ElfObject) : Type 0 where
  pub sections_in : All (HoldsSection (length o.symbols)) o.sections
  pub first : slice_get o.symbols 0 ≡ Some symbol_zero
  pub symbols_in : All (HoldsSymbol o.sections) (drop 1 o.symbols)
  -- locals stand first
  pub locals_first : o.symbols ≡ filter is_local o.symbols ++ others o.symbols
  pub distinct : IsDistinct bytes_eq (map (λ (s : Symbol). s.name) (others o.symbols))
  -- the number of the last section has a field of its own
  pub few_sections : symtab_number o + 2 < shn_xindex
