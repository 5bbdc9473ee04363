-- What object bytes are: the sections, symbols and relocations that stand in them, or the first check
-- that they fail (System V gABI, "Object Files"; RISC-V ELF psABI; and this project's profile).
use Rattle.std.specs.Prelude.{◌≡◌, ℕ, ◌==◌, List, [], map, Option, Some, None, unwrap_or, Result, Ok, Err, if◌then◌else◌}
use Rattle.elf_read.specs.declared.error.ElfError.{ElfError}
use Rattle.elf_read.specs.declared.error.ElfError.TheVariants.{NoMemory}
use Rattle.elf_read.specs.declared.object.ElfObject.{ElfObject}
use Rattle.elf_read.specs.declared.object.Section.{Section}
use Rattle.elf_read.specs.Choice.{◌otherwise◌, first_below}
use Rattle.elf_read.specs.File.{File, file_of, section, contents}
use Rattle.elf_read.specs.Gabi.{sht_nobits}
use Rattle.elf_read.specs.Sections.{opening_refusal, section_refusal, name_refusal, overlap_refusal, section_name}
use Rattle.elf_read.specs.Symbols.{symbol_refusal, relocs_refusal, symbol_count, numbers, relocs_in, kept_below, symbol_in}

-- a reader's answer is this one, unless memory ran out
abbrev pub Fails : {T : Type 0} → ElfError → Result T ElfError → Type 0
Fails NoMemory answer = Unit {0}
Fails e answer = answer ≡ Err e

abbrev pub Reads : {T : Type 0} → Result T ElfError → Result T ElfError → Type 0
Reads (Ok x) answer = answer ≡ Ok x
Reads (Err e) answer = Fails e answer

-- the first check that a file fails, in the order of the checks
unfoldable pub refusal_of : List ℕ → Option ElfError
refusal_of bytes = let f = file_of bytes in
    opening_refusal bytes
    otherwise first_below f.count (section_refusal f)
    otherwise first_below f.count (name_refusal f)
    otherwise first_below f.count (overlap_refusal f)
    otherwise first_below (symbol_count f) (symbol_refusal f)
    otherwise first_below f.count (relocs_refusal f)

-- a kept section; one of the type NOBITS has no bytes in the file
unfoldable pub section_in : File → ℕ → Section
section_in f i = let s = section f i in
    record {
      name = unwrap_or (section_name f i) [];
      kind = s.kind;
      flags = s.flags;
      align = if s.align == 0 then 1 else s.align;
      size = s.size;
      bytes = if s.kind == sht_nobits then [] else contents f.bytes s;
      relocs = relocs_in f i;
    }

unfoldable pub object_in : File → ElfObject
object_in f = record { sections = map (section_in f) (kept_below f f.count); symbols = map (symbol_in f) (numbers (symbol_count f)) }

abbrev pub unless : Option ElfError → ElfObject → Result ElfObject ElfError
unless None object = Ok object
unless (Some e) object = Err e

-- the object that bytes are, or the first check that they fail
unfoldable pub object_of : List ℕ → Result ElfObject ElfError
object_of bytes = unless (refusal_of bytes) (object_in (file_of bytes))
