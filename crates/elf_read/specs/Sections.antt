-- The checks of the header and of the sections (System V gABI, "ELF Header", "Sections"), as this
-- project's profile has them.
use Rattle.std.specs.Prelude.{ℕ, ◌+◌, ◌*◌, ◌/◌, ◌%◌, ◌^◌, Bool, false, ◌&&◌, ◌||◌, not, ◌==◌, nat_lt, nat_le, List, [], ◌∷◌, take, drop, Option, Some, None, option_map, position, is_none, unwrap_or, if◌then◌else◌}
use Rattle.std.specs.List.{list_any}
use Rattle.elf_read.specs.declared.error.ElfError.{ElfError}
use Rattle.elf_read.specs.declared.error.ElfError.TheVariants.{BadMagic, NotClass64, NotLittle, NotRelocatable, NotRiscv, BadFlags, BadTable, BadLink, Overlap, NotBuilt}
use Rattle.elf_read.specs.declared.error.NotBuiltKind.TheVariants.{Group, Rel, Tls, Compressed, SectionKind, Xindex}
use Rattle.elf_read.specs.declared.fields.SectionHeader.{SectionHeader}
use Rattle.elf_read.specs.Choice.{when, ◌otherwise◌, first_below, any_below}
use Rattle.elf_read.specs.File.{File, file_header, file_of, section, lies_in, short, contents}
use Rattle.elf_read.specs.Gabi.{elf_magic, elfclass64, elfdata2lsb, et_rel, em_riscv, sht_progbits, sht_symtab, sht_strtab, sht_rela, sht_note, sht_nobits, sht_rel, sht_init_array, sht_fini_array, sht_preinit_array, sht_group, shf_alloc, shf_tls, shf_compressed, shn_xindex}

-- ---- the header

-- what the file says of itself: ELF64, little endian, relocatable, RISC-V, and no flag of the machine
unfoldable pub header_refusal : List ℕ → Option ElfError
header_refusal bytes = let h = file_header bytes in
    when (not (lies_in bytes 0 64)) (short bytes 0)
    otherwise when (not (h.magic == elf_magic)) BadMagic
    otherwise when (not (h.class == elfclass64)) NotClass64
    otherwise when (not (h.encoding == elfdata2lsb)) NotLittle
    otherwise when (not (h.kind == et_rel)) NotRelocatable
    otherwise when (not (h.machine == em_riscv)) NotRiscv
    otherwise when (not (h.flags == 0)) (BadFlags h.flags)

-- the section table: its entries' size and count, the number of the name table, and its range
unfoldable pub table_refusal : File → ℕ → Option ElfError
table_refusal f entry_size =
    when (not (entry_size == 64) || f.count == 0) (BadTable 0)
    otherwise when (f.names == shn_xindex) (NotBuilt Xindex)
    otherwise when (nat_le f.count f.names) (BadLink 0)
    otherwise when (not (lies_in f.bytes f.table (64 * f.count))) (short f.bytes f.table)
    otherwise when (not ((section f f.names).kind == sht_strtab)) (BadLink 0)

-- the header and the section table
unfoldable pub opening_refusal : List ℕ → Option ElfError
opening_refusal bytes = header_refusal bytes otherwise table_refusal (file_of bytes) (file_header bytes).entry_size

-- ---- one section

abbrev pub has_flag : ℕ → SectionHeader → Bool
has_flag bit s = s.flags / 2 ^ bit % 2 == 1

abbrev pub is_allocated : SectionHeader → Bool
is_allocated s = has_flag shf_alloc s

-- the types of what is placed in memory
abbrev pub is_placed_kind : ℕ → Bool
is_placed_kind kind = kind == sht_progbits || kind == sht_note || kind == sht_nobits || kind == sht_init_array || kind == sht_fini_array || kind == sht_preinit_array

-- a section that the object keeps
unfoldable pub is_kept : SectionHeader → Bool
is_kept s = is_allocated s && is_placed_kind s.kind

-- the powers of two up to 4,096
unfoldable pub is_small_power : ℕ → Bool
is_small_power n = list_any (λ k. n == 2 ^ k) (0 ∷ 1 ∷ 2 ∷ 3 ∷ 4 ∷ 5 ∷ 6 ∷ 7 ∷ 8 ∷ 9 ∷ 10 ∷ 11 ∷ 12 ∷ [])

-- ---- one section among the others

-- the symbol table: the first section of its type
unfoldable pub symtab_of : File → Option ℕ
symtab_of f = first_below f.count (λ k. when ((section f k).kind == sht_symtab) k)

-- the first section with the relocations of section i
unfoldable pub rela_of : File → ℕ → Option ℕ
rela_of f i = first_below f.count (λ k. when ((section f k).kind == sht_rela && (section f k).info == i) k)

abbrev pub is_at : Option ℕ → ℕ → Bool
is_at None i = false
is_at (Some k) i = k == i

-- the header of the symbol table; of no section where there is none
unfoldable pub symtab : File → SectionHeader
symtab f = section f (unwrap_or (symtab_of f) 0)

-- a kept section that is in the file
abbrev pub has_kept_bytes : File → ℕ → Bool
has_kept_bytes f i = is_kept (section f i) && not ((section f i).kind == sht_nobits)

abbrev pub is_symtab : File → ℕ → Bool
is_symtab f i = (section f i).kind == sht_symtab

-- the string table of the symbol table
abbrev pub is_strings : File → ℕ → Bool
is_strings f i = i == (symtab f).link && (section f i).kind == sht_strtab

-- the relocations of a kept section
abbrev pub is_kept_rela : File → ℕ → Bool
is_kept_rela f i = (section f i).kind == sht_rela && is_kept (section f (section f i).info)

-- a section whose bytes the object is made of: one of these, or the name table
unfoldable pub is_used : File → ℕ → Bool
is_used f i = has_kept_bytes f i || is_symtab f i || is_strings f i || i == f.names || is_kept_rela f i

-- of a symbol table: it is the only one, with whole entries of 24 bytes and at least one, and links a
-- string table
unfoldable pub symtab_refusal : File → ℕ → Option ElfError
symtab_refusal f i = let s = section f i in
    when (not (is_at (symtab_of f) i) || not (s.entry_size == 24) || s.size == 0 || not (s.size % 24 == 0)) (BadTable i)
    otherwise when (not ((section f s.link).kind == sht_strtab)) (BadLink i)

-- of the relocations of a kept section: they are its only ones, link the symbol table, and have whole
-- entries of 24 bytes
unfoldable pub kept_rela_refusal : File → ℕ → Option ElfError
kept_rela_refusal f i = let s = section f i in
    when (not (is_at (rela_of f s.info) i) || not (is_at (symtab_of f) s.link)) (BadLink i)
    otherwise when (not (s.entry_size == 24) || not (s.size % 24 == 0)) (BadTable i)

unfoldable pub rela_refusal : File → ℕ → Option ElfError
rela_refusal f i = let s = section f i in
    when (nat_le f.count s.info) (BadLink i)
    otherwise (if is_kept (section f s.info) then kept_rela_refusal f i else None)

-- of a section by its type and flags
unfoldable pub kind_refusal : SectionHeader → Option ElfError
kind_refusal s =
    when (s.kind == sht_group) (NotBuilt Group)
    otherwise when (s.kind == sht_rel) (NotBuilt Rel)
    otherwise when (is_allocated s && has_flag shf_tls s) (NotBuilt Tls)
    otherwise when (is_allocated s && has_flag shf_compressed s) (NotBuilt Compressed)
    otherwise when (is_allocated s && not (is_placed_kind s.kind)) (NotBuilt SectionKind)

unfoldable pub section_refusal : File → ℕ → Option ElfError
section_refusal f i = let s = section f i in
    kind_refusal s
    otherwise when (is_kept s && not (s.align == 0 || is_small_power s.align)) (BadTable i)
    otherwise (if s.kind == sht_symtab then symtab_refusal f i else None)
    otherwise (if s.kind == sht_rela then rela_refusal f i else None)
    otherwise when (is_used f i && not (lies_in f.bytes s.offset s.size)) (short f.bytes s.offset)

-- ---- names

-- the bytes before the first zero byte; none where there is no zero byte
unfoldable pub text_in : List ℕ → Option (List ℕ)
text_in bytes = option_map (λ n. take n bytes) (position (λ b. b == 0) bytes)

unfoldable pub section_name : File → ℕ → Option (List ℕ)
section_name f i = text_in (drop (section f i).name (contents f.bytes (section f f.names)))

-- the name of a kept section is in the name table, and ended there
unfoldable pub name_refusal : File → ℕ → Option ElfError
name_refusal f i = when (is_kept (section f i) && is_none (section_name f i)) (BadTable i)

-- ---- ranges

-- two ranges of positive size, each by its start and size, have a byte in common
abbrev pub meets : ℕ → ℕ → ℕ → ℕ → Bool
meets start size other_start other_size = nat_lt start (other_start + other_size) && nat_lt other_start (start + size)

-- a section that takes bytes of the file
unfoldable pub takes_bytes : File → ℕ → Bool
takes_bytes f i = is_used f i && nat_lt 0 (section f i).size

-- two sections take a byte in common
unfoldable pub sections_meet : File → ℕ → ℕ → Bool
sections_meet f i k = meets (section f i).offset (section f i).size (section f k).offset (section f k).size

-- what is used shares no byte with the header, the section table or what is used before it
unfoldable pub overlap_refusal : File → ℕ → Option ElfError
overlap_refusal f i = let s = section f i in
    when
    (takes_bytes f i
    && (meets s.offset s.size 0 64 || meets s.offset s.size f.table (64 * f.count) || any_below i (λ k. takes_bytes f k && sections_meet f i k)))
    (Overlap i)
