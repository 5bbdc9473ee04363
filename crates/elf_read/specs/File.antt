-- The fields of a file, each a little-endian number at a place (System V gABI, "ELF Header",
-- "Section Header", "Symbol Table", "Relocation"; the layouts are those of ELFCLASS64).
use Rattle.std.specs.Prelude.{ℕ, ◌+◌, ◌*◌, ◌/◌, ◌%◌, ◌^◌, Bool, ◌&&◌, not, ◌==◌, nat_lt, nat_le, List, length, take, drop, slice_index, max, if◌then◌else◌}
use Rattle.orc_words.specs.Numbers.{number_at}
use Rattle.orc_words.specs.Bits.{signed_of}
use Rattle.elf_read.specs.declared.error.ElfError.{ElfError}
use Rattle.elf_read.specs.declared.error.ElfError.TheVariants.{Short}
use Rattle.elf_read.specs.declared.fields.FileHeader.{FileHeader}
use Rattle.elf_read.specs.declared.fields.SectionHeader.{SectionHeader}
use Rattle.elf_read.specs.declared.fields.SymbolEntry.{SymbolEntry}
use Rattle.elf_read.specs.declared.object.Reloc.{Reloc}

-- the number of some width at a place
abbrev pub field : List ℕ → ℕ → ℕ → ℕ
field bytes at width = number_at width (slice_index bytes) at

unfoldable pub file_header : List ℕ → FileHeader
file_header bytes = record {
  magic = field bytes 0 4;
  class = field bytes 4 1;
  encoding = field bytes 5 1;
  kind = field bytes 16 2;
  machine = field bytes 18 2;
  table = field bytes 40 8;
  flags = field bytes 48 4;
  entry_size = field bytes 58 2;
  count = field bytes 60 2;
  names = field bytes 62 2;
}

unfoldable pub section_header : List ℕ → ℕ → SectionHeader
section_header bytes at = record {
  name = field bytes at 4;
  kind = field bytes (at + 4) 4;
  flags = field bytes (at + 8) 8;
  offset = field bytes (at + 24) 8;
  size = field bytes (at + 32) 8;
  link = field bytes (at + 40) 4;
  info = field bytes (at + 44) 4;
  align = field bytes (at + 48) 8;
  entry_size = field bytes (at + 56) 8;
}

unfoldable pub symbol_entry : List ℕ → ℕ → SymbolEntry
symbol_entry bytes at = record {
  name = field bytes at 4;
  bind = field bytes (at + 4) 1 / 16;
  kind = field bytes (at + 4) 1 % 16;
  vis = field bytes (at + 5) 1 % 4;
  section = field bytes (at + 6) 2;
  value = field bytes (at + 8) 8;
  size = field bytes (at + 16) 8;
}

unfoldable pub reloc_entry : List ℕ → ℕ → Reloc
reloc_entry bytes at = record {
  at = field bytes at 8;
  kind = field bytes (at + 8) 8 % 2 ^ 32;
  symbol = field bytes (at + 8) 8 / 2 ^ 32;
  addend = signed_of 64 (field bytes (at + 16) 8);
}

-- a file, the place of its section table and how many entries that has, and the number of the
-- section with the sections' names
pub record File : Type 0 where
  pub bytes : List ℕ
  pub table : ℕ
  pub count : ℕ
  pub names : ℕ

unfoldable pub file_of : List ℕ → File
file_of bytes = record { bytes = bytes; table = (file_header bytes).table; count = (file_header bytes).count; names = (file_header bytes).names }

-- what stands for a section that is not there
abbrev pub no_section : SectionHeader
no_section = record { name = 0; kind = 0; flags = 0; offset = 0; size = 0; link = 0; info = 0; align = 0; entry_size = 0 }

-- the section of a number; entry 0 of the table is no section, whatever its bytes say
unfoldable pub section : File → ℕ → SectionHeader
section f i = if not (i == 0) && nat_lt i f.count then section_header f.bytes (f.table + 64 * i) else no_section

-- a range of so many bytes lies in the file
abbrev pub lies_in : List ℕ → ℕ → ℕ → Bool
lies_in bytes start size = nat_le (start + size) (length bytes)

-- the refusal of a range that doesn't
abbrev pub short : List ℕ → ℕ → ElfError
short bytes start = Short (max start (length bytes))

-- the bytes of a section
abbrev pub contents : List ℕ → SectionHeader → List ℕ
contents bytes s = take s.size (drop s.offset bytes)
