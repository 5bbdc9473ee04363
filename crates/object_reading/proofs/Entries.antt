-- The entries of tables: their fields are those that were written.
use Rattle.std.proofs.Common.{◌≡◌, ℕ, ◌+◌, ◌*◌, ◌/◌, ◌%◌, ◌^◌, ◌<◌, ℤ, pos, negsuc, true, List, [], ◌∷◌, length, ap, subst, ◌∙◌, append_assoc, arith}
use Rattle.std.proofs.Math.Nat.{mod-lt, mod-eq_of_lt}
use Rattle.std.proofs.lemmas.List.{append-nil}
use Rattle.std.proofs.lemmas.Nat.{pow_pos, shr_high, mod_low, mul-add-lt}
use Rattle.orc_words.specs.Bits.{low_of, fits_bits, signed_of}
use Rattle.orc_words.proofs.Complement.{signed_of-low_of}
use Rattle.elf_read.specs.declared.object.Reloc.{Reloc}
use Rattle.elf_read.specs.declared.object.Symbol.{Symbol}
use Rattle.elf_read.specs.File.{section_header, symbol_entry, reloc_entry}
use Rattle.elf_write.specs.Tables.{reloc_bytes, symbol_bytes, section_number}
use Rattle.elf_write.specs.Parts.{Part}
use Rattle.elf_write.specs.Files.{header_bytes}
use Rattle.object_reading.specs.Places.{Stands}
use Rattle.object_reading.proofs.Numbers.{numbers_bytes, length-numbers_bytes, field_in, field_first}

-- ---- entries of the section table

pub record HeaderFits (p : Part) : Type 0 where
  pub kind_in : p.header.kind < 2 ^ 32
  pub flags_in : p.header.flags < 2 ^ 64
  pub size_in : p.header.size < 2 ^ 64
  pub link_in : p.header.link < 2 ^ 32
  pub info_in : p.header.info < 2 ^ 32
  pub align_in : p.header.align < 2 ^ 64
  pub entry_in : p.header.entry_size < 2 ^ 64

pub record HeaderIs (bytes : List ℕ) (at name offset : ℕ) (p : Part) : Type 0 where
  pub name_is : (section_header bytes at).name ≡ name
  pub kind_is : (section_header bytes at).kind ≡ p.header.kind
  pub flags_are : (section_header bytes at).flags ≡ p.header.flags
  pub offset_is : (section_header bytes at).offset ≡ offset
  pub size_is : (section_header bytes at).size ≡ p.header.size
  pub link_is : (section_header bytes at).link ≡ p.header.link
  pub info_is : (section_header bytes at).info ≡ p.header.info
  pub align_is : (section_header bytes at).align ≡ p.header.align
  pub entry_is : (section_header bytes at).entry_size ≡ p.header.entry_size

header_row : ℕ → ℕ → Part → List (ℕ × ℕ)
header_row name offset p =
    (4, name) ∷ (4, p.header.kind) ∷ (8, p.header.flags) ∷ (8, 0) ∷ (8, offset) ∷ (8, p.header.size)
    ∷ (4, p.header.link) ∷ (4, p.header.info) ∷ (8, p.header.align) ∷ (8, p.header.entry_size) ∷ []

header_is : (name offset : ℕ) (p : Part) → header_bytes name offset p.header ≡ numbers_bytes (header_row name offset p)
unfolding header_row
header_is name offset p = simp (append_assoc, append-nil)

pub length-header_bytes : (name offset : ℕ) (p : Part) → length (header_bytes name offset p.header) ≡ 64
unfolding header_row
length-header_bytes name offset p = ap length (header_is name offset p) ∙ length-numbers_bytes (header_row name offset p)

pub section_header-written : {bytes : List ℕ} {at : ℕ} (name offset : ℕ) (p : Part) → name < 2 ^ 32 → offset < 2 ^ 64 → HeaderFits p → Stands bytes at (header_bytes name offset p.header) → HeaderIs bytes at name offset p
unfolding section_header header_row
section_header-written {bytes} {at} name offset p name_in offset_in fits s =
    let ps : List (ℕ × ℕ) = header_row name offset p in
    let there : Stands bytes at (numbers_bytes ps) = subst (λ l. Stands bytes at l) (header_is name offset p) s in
    record {
      name_is = field_first ps (omega arith) there name_in;
      kind_is = field_in ps 1 (omega arith) there fits.kind_in;
      flags_are = field_in ps 2 (omega arith) there fits.flags_in;
      offset_is = field_in ps 4 (omega arith) there offset_in;
      size_is = field_in ps 5 (omega arith) there fits.size_in;
      link_is = field_in ps 6 (omega arith) there fits.link_in;
      info_is = field_in ps 7 (omega arith) there fits.info_in;
      align_is = field_in ps 8 (omega arith) there fits.align_in;
      entry_is = field_in ps 9 (omega arith) there fits.entry_in;
    }

-- ---- entries of the symbol table

pub record SymbolFits (y : Symbol) : Type 0 where
  pub bind_in : y.bind < 16
  pub kind_in : y.kind < 16
  pub vis_in : y.vis < 4
  pub section_in : section_number y.place < 2 ^ 16
  pub value_in : y.value < 2 ^ 64
  pub size_in : y.size < 2 ^ 64

pub record EntryIs (bytes : List ℕ) (at name : ℕ) (y : Symbol) : Type 0 where
  pub name_is : (symbol_entry bytes at).name ≡ name
  pub bind_is : (symbol_entry bytes at).bind ≡ y.bind
  pub kind_is : (symbol_entry bytes at).kind ≡ y.kind
  pub vis_is : (symbol_entry bytes at).vis ≡ y.vis
  pub section_is : (symbol_entry bytes at).section ≡ section_number y.place
  pub value_is : (symbol_entry bytes at).value ≡ y.value
  pub size_is : (symbol_entry bytes at).size ≡ y.size

symbol_row : ℕ → Symbol → List (ℕ × ℕ)
symbol_row name y = (4, name) ∷ (1, y.bind * 16 + y.kind) ∷ (1, y.vis) ∷ (2, section_number y.place) ∷ (8, y.value) ∷ (8, y.size) ∷ []

symbol_is : (name : ℕ) (y : Symbol) → symbol_bytes name y ≡ numbers_bytes (symbol_row name y)
unfolding symbol_row
symbol_is name y = simp (append_assoc, append-nil)

pub length-symbol_bytes : (name : ℕ) (y : Symbol) → length (symbol_bytes name y) ≡ 24
unfolding symbol_row
length-symbol_bytes name y = ap length (symbol_is name y) ∙ length-numbers_bytes (symbol_row name y)

pub symbol_entry-written : {bytes : List ℕ} {at : ℕ} (name : ℕ) (y : Symbol) → name < 2 ^ 32 → SymbolFits y → Stands bytes at (symbol_bytes name y) → EntryIs bytes at name y
unfolding symbol_entry symbol_row
symbol_entry-written {bytes} {at} name y name_in fits s =
    let ps : List (ℕ × ℕ) = symbol_row name y in
    let there : Stands bytes at (numbers_bytes ps) = subst (λ l. Stands bytes at l) (symbol_is name y) s in
    let info = field_in ps 1 (omega arith) there (omega (arith, fits.bind_in, fits.kind_in)) in
    let vis = field_in ps 2 (omega arith) there (omega (arith, fits.vis_in)) in
    record {
      name_is = field_first ps (omega arith) there name_in;
      bind_is = ap (λ (x : ℕ). x / 16) info ∙ shr_high y.bind 4 y.kind fits.kind_in;
      kind_is = ap (λ (x : ℕ). x % 16) info ∙ mod_low y.bind 4 y.kind fits.kind_in;
      vis_is = ap (λ (x : ℕ). x % 4) vis ∙ mod-eq_of_lt fits.vis_in;
      section_is = field_in ps 3 (omega arith) there fits.section_in;
      value_is = field_in ps 4 (omega arith) there fits.value_in;
      size_is = field_in ps 5 (omega arith) there fits.size_in;
    }

-- ---- entries of a table of relocations

pub record RelocFits (r : Reloc) : Type 0 where
  pub at_in : r.at < 2 ^ 64
  pub kind_in : r.kind < 2 ^ 32
  pub symbol_in : r.symbol < 2 ^ 32
  pub addend_in : fits_bits 64 r.addend ≡ true

low_of-lt : (v : ℤ) → low_of 64 v < 2 ^ 64
low_of-lt (pos k) = mod-lt k (pow_pos 64)
low_of-lt (negsuc k) = omega arith

reloc_row : Reloc → List (ℕ × ℕ)
reloc_row r = (8, r.at) ∷ (8, r.symbol * 2 ^ 32 + r.kind) ∷ (8, low_of 64 r.addend) ∷ []

reloc_is : (r : Reloc) → reloc_bytes r ≡ numbers_bytes (reloc_row r)
unfolding reloc_row
reloc_is r = simp (append_assoc, append-nil)

pub length-reloc_bytes : (r : Reloc) → length (reloc_bytes r) ≡ 24
unfolding reloc_row
length-reloc_bytes r = ap length (reloc_is r) ∙ length-numbers_bytes (reloc_row r)

pub reloc_entry-written : {bytes : List ℕ} {at : ℕ} (r : Reloc) → RelocFits r → Stands bytes at (reloc_bytes r) → reloc_entry bytes at ≡ r
unfolding reloc_entry reloc_row
reloc_entry-written {bytes} {at} r fits s =
    let ps : List (ℕ × ℕ) = reloc_row r in
    let there : Stands bytes at (numbers_bytes ps) = subst (λ l. Stands bytes at l) (reloc_is r) s in
    let place = field_first ps (omega arith) there fits.at_in in
    let info = field_in ps 1 (omega arith) there (mul-add-lt r.symbol (2 ^ 32) r.kind (2 ^ 32) fits.symbol_in fits.kind_in) in
    let addend = field_in ps 2 (omega arith) there (low_of-lt r.addend) in
    let kind = ap (λ (x : ℕ). x % 2 ^ 32) info ∙ mod_low r.symbol 32 r.kind fits.kind_in in
    let symbol = ap (λ (x : ℕ). x / 2 ^ 32) info ∙ shr_high r.symbol 32 r.kind fits.kind_in in
    let signed = ap (signed_of 64) addend ∙ signed_of-low_of 64 r.addend (omega arith) fits.addend_in in
    λ i. record { at = place i; kind = kind i; symbol = symbol i; addend = signed i }
