-- The file of an object: its header, then each part at the next multiple of eight, then the section table
-- (System V gABI, "ELF Header", "Sections").
use Rattle.std.specs.Prelude.{ℕ, ◌+◌, Bool, true, false, List, [], ◌∷◌, ◌++◌, length, map, codes}
use Rattle.std.specs.List.{filter}
use Rattle.elf_read.specs.Gabi.{em_riscv, et_rel}
use Rattle.elf_read.specs.declared.object.ElfObject.{ElfObject}
use Rattle.elf_read.specs.declared.object.Section.{Section}
use Rattle.elf_write.specs.declared.part.Header.{Header}
use Rattle.elf_write.specs.Bytes.{number_bytes, zeros, filled, no_strings, string_place, with_string}
use Rattle.elf_write.specs.Tables.{symtab_of, is_local}
use Rattle.elf_write.specs.Parts.{Part, section_part, rela_parts, symtab_part, strings_part}

-- ---- what is written so far

-- the bytes after the file header, the section table, and the names of sections
pub record Written : Type 0 where
  pub bytes : List ℕ
  pub headers : List ℕ
  pub names : List ℕ

-- entry 0 of the section table is all zeros
abbrev pub nothing_written : Written
nothing_written = record { bytes = []; headers = zeros 64; names = no_strings }

-- an entry of the section table, whose name and bytes stand at these places
abbrev pub header_bytes : ℕ → ℕ → Header → List ℕ
header_bytes name offset h =
    number_bytes 4 name
    ++ number_bytes 4 h.kind
    ++ number_bytes 8 h.flags
    ++ number_bytes 8 0
    ++ number_bytes 8 offset
    ++ number_bytes 8 h.size
    ++ number_bytes 4 h.link
    ++ number_bytes 4 h.info
    ++ number_bytes 8 h.align
    ++ number_bytes 8 h.entry_size

-- the next part, at the next multiple of eight; the file header has 64 bytes
abbrev pub with_part : Part → Written → Written
with_part p w = record {
  bytes = filled w.bytes ++ p.bytes;
  headers = w.headers ++ header_bytes (string_place p.name w.names) (64 + length (filled w.bytes)) p.header;
  names = with_string p.name w.names;
}

abbrev pub with_parts : List Part → Written → Written
with_parts [] w = w
with_parts (p ∷ ps) w = with_parts ps (with_part p w)

-- the names of sections are the last part, their own name among them
abbrev pub with_names : Written → Written
with_names w = with_part (strings_part (codes ".shstrtab") (with_string (codes ".shstrtab") w.names)) w

-- ---- the file

abbrev pub is_filled : {A : Type 0} → List A → Bool
is_filled [] = false
is_filled (x ∷ xs) = true

-- how many sections have relocations
abbrev pub rela_count : List Section → ℕ
rela_count sections = length (filter (λ (s : Section). is_filled s.relocs) sections)

-- the number of the symbol table; the tables of symbol names and of section names follow
unfoldable pub symtab_number : ElfObject → ℕ
symtab_number o = 1 + length o.sections + rela_count o.sections

unfoldable pub parts_of : ElfObject → List Part
parts_of o = let t = symtab_of o.symbols in
    map section_part o.sections
    ++ rela_parts (symtab_number o) 1 o.sections
    ++ symtab_part (symtab_number o + 1) (length (filter is_local o.symbols)) t
    ∷ strings_part (codes ".strtab") t.strings
    ∷ []

-- ELF, class 64, little endian, version 1; relocatable, for RISC-V, version 1; no entry, no program header
abbrev pub kind_bytes : List ℕ
kind_bytes =
    (0x7f ∷ 0x45 ∷ 0x4c ∷ 0x46 ∷ 2 ∷ 1 ∷ 1 ∷ 0 ∷ [])
    ++ number_bytes 8 0
    ++ number_bytes 2 et_rel
    ++ number_bytes 2 em_riscv
    ++ number_bytes 4 1
    ++ number_bytes 8 0
    ++ number_bytes 8 0

-- the section table's place, no flags, the sizes of the headers and of an entry, how many entries there are,
-- and the number of the last, which has the sections' names
abbrev pub table_bytes : ℕ → ℕ → List ℕ
table_bytes table last =
    number_bytes 8 table
    ++ number_bytes 4 0
    ++ number_bytes 2 64
    ++ number_bytes 2 0
    ++ number_bytes 2 0
    ++ number_bytes 2 64
    ++ number_bytes 2 (last + 1)
    ++ number_bytes 2 last

abbrev pub file_header_bytes : ℕ → ℕ → List ℕ
file_header_bytes table last = kind_bytes ++ table_bytes table last

abbrev pub finished : ℕ → Written → List ℕ
finished last w = file_header_bytes (64 + length (filled w.bytes)) last ++ filled w.bytes ++ w.headers

-- the bytes of an object's file
unfoldable pub file_bytes : ElfObject → List ℕ
file_bytes o = finished (symtab_number o + 2) (with_names (with_parts (parts_of o) nothing_written))
