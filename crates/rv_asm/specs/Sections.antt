-- The sections of an object, made of those of the text.
use Rattle.std.specs.Prelude.{◌≡◌, ℕ, ◌<◌, ◌^◌, Bool, true, false, not, List, [], ◌∷◌, length, map, slice_get, slice_index, slice_index_or, Some}
use Rattle.std.specs.List.{filter}
use Rattle.orc_words.specs.Numbers.{with_number}
use Rattle.rv_insn.specs.Rows.{Fits}
use Rattle.rv_insn.specs.declared.insn.Insn.{Insn}
use Rattle.elf_read.specs.declared.object.Reloc.{Reloc}
use Rattle.elf_read.specs.declared.object.Section.{Section}
use Rattle.asm_lines.specs.declared.statement.SectionKind.{SectionKind}
use Rattle.asm_lines.specs.declared.statement.SectionKind.TheVariants.{Text, Data, Bss, ReadOnly}
use Rattle.asm_state.specs.declared.section.Code.{Code}
use Rattle.asm_state.specs.declared.section.Patch.{Patch}
use Rattle.asm_state.specs.Sections.{Made, fresh, is_bss}
use Rattle.asm_state.specs.Symbols.{Symbols}
use Rattle.asm_text.specs.Known.{Known}
use Rattle.rv_asm.specs.Symbols.{order, entry_in}
use Rattle.rv_asm.specs.Branches.{filled, is_filled}

-- zeros that aren't in the file are NOBITS, all else PROGBITS
abbrev pub section_type : SectionKind → ℕ
section_type Bss = 8
section_type _ = 1

-- sections are allocated; data may be written, and text executed
abbrev pub flags_of : SectionKind → ℕ
flags_of Text = 6
flags_of Data = 3
flags_of Bss = 3
flags_of ReadOnly = 2

-- ---- bytes

-- the 32 bits of an instruction
abbrev pub IsWord : Insn → ℕ → Type 0
IsWord insn word = (word < 2 ^ 32) × Fits insn word

-- the bytes, as a function from place to byte, once the words of instructions stand at their places
abbrev pub Encoded : Symbols → ℕ → List Code → (ℕ → ℕ) → (ℕ → ℕ) → Type 0
Encoded s section [] before after = after ≡ before
Encoded s section (c ∷ cs) before after =
    (word : ℕ) × (IsWord (filled s section c) word × Encoded s section cs (with_number 4 c.at word before) after)

-- the bytes of a section: its data, and the words of its instructions
pub record IsContents (s : Symbols) (section : ℕ) (m : Made) (bytes : List ℕ) : Type 0 where
  pub sized : length bytes ≡ length m.bytes
  pub encoded : Encoded s section m.code (slice_index m.bytes) (slice_index bytes)

-- a section of zeros has none in the file
abbrev pub HoldsIf : Bool → Symbols → ℕ → Made → List ℕ → Type 0
HoldsIf true s section m bytes = bytes ≡ []
HoldsIf false s section m bytes = IsContents s section m bytes

abbrev pub Holds : Symbols → ℕ → Made → List ℕ → Type 0
Holds s section m bytes = HoldsIf (is_bss m.kind) s section m bytes

-- ---- relocations

abbrev pub reloc_of : List ℕ → Patch → Reloc
reloc_of numbers p = record { at = p.at; kind = p.kind; symbol = entry_in numbers p.symbol; addend = p.addend }

-- the relocations but for those of branches that are filled in
unfoldable pub relocs_of : Symbols → List ℕ → ℕ → List Patch → List Reloc
relocs_of s numbers section patches = map (reloc_of numbers) (filter (λ p. not (is_filled s section p)) patches)

-- ---- one section

pub record IsSection (s : Symbols) (section : ℕ) (name : List ℕ) (m : Made) (made : Section) : Type 0 where
  pub name_is : made.name ≡ name
  pub kind_is : made.kind ≡ section_type m.kind
  pub flags_are : made.flags ≡ flags_of m.kind
  pub align_is : made.align ≡ m.align
  pub size_is : made.size ≡ m.size
  pub bytes_are : Holds s section m made.bytes
  pub relocs_are : made.relocs ≡ relocs_of s (order s) section m.patches

abbrev pub made_at : Known → ℕ → Made
made_at k section = slice_index_or k.sections.made section (fresh Text 4)

abbrev pub name_at : Known → ℕ → List ℕ
name_at k section = slice_index_or k.sections.names section []

-- the sections of a text, each by its number
pub record AreSections (k : Known) (sections : List Section) : Type 0 where
  pub count : length sections ≡ length k.sections.made
  pub each : (n : ℕ) (s : Section) → slice_get sections n ≡ Some s → IsSection k.symbols n (name_at k n) (made_at k n) s
