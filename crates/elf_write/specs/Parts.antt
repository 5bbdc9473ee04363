-- The sections of the file, each as its header and its bytes (System V gABI, "Sections").
use Rattle.std.specs.Prelude.{ℕ, ◌+◌, List, [], ◌∷◌, ◌++◌, length, codes}
use Rattle.elf_read.specs.Gabi.{sht_symtab, sht_strtab, sht_rela}
use Rattle.elf_read.specs.declared.object.Reloc.{Reloc}
use Rattle.elf_read.specs.declared.object.Section.{Section}
use Rattle.elf_write.specs.declared.part.Header.{Header}
use Rattle.elf_write.specs.Tables.{Symtab, relocs_bytes}

-- a name, a header, and bytes
pub record Part : Type 0 where
  pub name : List ℕ
  pub header : Header
  pub bytes : List ℕ

abbrev pub section_part : Section → Part
section_part s = record {
  name = s.name;
  header = record { kind = s.kind; flags = s.flags; size = s.size; link = 0; info = 0; align = s.align; entry_size = 0 };
  bytes = s.bytes;
}

-- flag INFO_LINK: `info` is a section's number
abbrev pub rela_part : ℕ → ℕ → Section → Part
rela_part symtab number s = record {
  name = codes ".rela" ++ s.name;
  header = record { kind = sht_rela; flags = 0x40; size = length (relocs_bytes s.relocs); link = symtab; info = number; align = 8; entry_size = 24 };
  bytes = relocs_bytes s.relocs;
}

abbrev pub rela_part_of : ℕ → ℕ → Section → List Reloc → List Part
rela_part_of symtab number s [] = []
rela_part_of symtab number s (r ∷ rs) = rela_part symtab number s ∷ []

-- the relocations of sections that have some; the first section has this number
abbrev pub rela_parts : ℕ → ℕ → List Section → List Part
rela_parts symtab number [] = []
rela_parts symtab number (s ∷ ss) = rela_part_of symtab number s s.relocs ++ rela_parts symtab (number + 1) ss

-- `info` is how many entries are local, which stand first
abbrev pub symtab_part : ℕ → ℕ → Symtab → Part
symtab_part strtab locals t = record {
  name = codes ".symtab";
  header = record { kind = sht_symtab; flags = 0; size = length t.entries; link = strtab; info = locals; align = 8; entry_size = 24 };
  bytes = t.entries;
}

abbrev pub strings_part : List ℕ → List ℕ → Part
strings_part name strings = record {
  name = name;
  header = record { kind = sht_strtab; flags = 0; size = length strings; link = 0; info = 0; align = 1; entry_size = 0 };
  bytes = strings;
}
