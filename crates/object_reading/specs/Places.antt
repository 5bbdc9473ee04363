-- Where the parts of an object's file stand, and what its section table says of each.
use Rattle.std.specs.Prelude.{◌≡◌, ℕ, suc, ◌+◌, ◌*◌, ◌<◌, ◌≤◌, ◌^◌, List, [], ◌∷◌, ◌++◌, length, drop, slice_index_or, codes}
use Rattle.elf_read.specs.declared.object.ElfObject.{ElfObject}
use Rattle.elf_read.specs.File.{File, file_of, section}
use Rattle.elf_write.specs.Bytes.{with_string}
use Rattle.elf_write.specs.Parts.{Part, strings_part}
use Rattle.elf_write.specs.Files.{with_parts, nothing_written, parts_of, file_bytes}
use Rattle.elf_write.specs.Canonical.{Canonical}

-- ---- bytes

-- these bytes begin at this place, and all of them are there
pub record Stands (bytes : List ℕ) (at : ℕ) (part : List ℕ) : Type 0 where
  pub front : List ℕ
  pub back : List ℕ
  pub whole : bytes ≡ front ++ (part ++ back)
  pub place : length front ≡ at

-- the name begins at this place, and a zero byte is next
pub record Ended (bytes : List ℕ) (at : ℕ) (name : List ℕ) : Type 0 where
  pub rest : List ℕ
  pub is : drop at bytes ≡ name ++ 0 ∷ rest

-- ---- sections

-- section i is the part, whose name and bytes stand at these places
pub record SectionIs (f : File) (i name offset : ℕ) (p : Part) : Type 0 where
  pub name_is : (section f i).name ≡ name
  pub kind_is : (section f i).kind ≡ p.header.kind
  pub flags_are : (section f i).flags ≡ p.header.flags
  pub offset_is : (section f i).offset ≡ offset
  pub size_is : (section f i).size ≡ p.header.size
  pub link_is : (section f i).link ≡ p.header.link
  pub info_is : (section f i).info ≡ p.header.info
  pub align_is : (section f i).align ≡ p.header.align
  pub entry_is : (section f i).entry_size ≡ p.header.entry_size

-- ---- the parts of a file

abbrev pub no_part : Part
no_part = record { name = []; header = record { kind = 0; flags = 0; size = 0; link = 0; info = 0; align = 0; entry_size = 0 }; bytes = [] }

abbrev pub part : List Part → ℕ → Part
part ps k = slice_index_or ps k no_part

-- The file's sections from 1 on are these parts. Their bytes stand after the header of 64 bytes, one after the other, and the
-- section table after them all; their names stand in a table.
pub record Holds (f : File) (ps : List Part) (names : List ℕ) : Type 0 where
  pub count_is : f.count ≡ suc (length ps)
  pub names_are : f.names ≡ length ps
  pub inside : f.table + 64 * f.count ≤ length f.bytes
  -- where the name and the bytes of each stand
  pub start : ℕ → ℕ
  pub place : ℕ → ℕ
  pub section_is : (k : ℕ) → k < length ps → SectionIs f (suc k) (start k) (place k) (part ps k)
  pub named : (k : ℕ) → k < length ps → Ended names (start k) (part ps k).name
  pub stands : (k : ℕ) → k < length ps → Stands f.bytes (place k) (part ps k).bytes
  pub above : (k : ℕ) → 64 ≤ place k
  pub ordered : (j k : ℕ) → j < k → k < length ps → place j + length (part ps j).bytes ≤ place k
  pub below : (k : ℕ) → k < length ps → place k + length (part ps k).bytes ≤ f.table

-- ---- the parts of an object's file

-- the names of its sections, of the table of names too
unfoldable pub section_names : ElfObject → List ℕ
section_names o = with_string (codes ".shstrtab") (with_parts (parts_of o) nothing_written).names

-- that table is the last part
unfoldable pub all_parts : ElfObject → List Part
all_parts o = parts_of o ++ strings_part (codes ".shstrtab") (section_names o) ∷ []

-- The file of a canonical object holds its parts, where it is shorter than 4 GiB.
abbrev pub PartsAreHeld : Type 0
PartsAreHeld = (o : ElfObject) → Canonical o → length (file_bytes o) < 2 ^ 32 → Holds (file_of (file_bytes o)) (all_parts o) (section_names o)
