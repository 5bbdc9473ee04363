-- The sections of a text in the making.
use Rattle.std.specs.Prelude.{◌≡◌, ℕ, ◌+◌, ◌<◌, ◌≤◌, max, Bool, true, false, List, [], ◌∷◌, ◌++◌, length, replicate, slice_index_or, slice_set, All, ℤ, Option, Some, None, codes, if◌then◌else◌}
use Rattle.std.specs.Str.{bytes_eq}
use Rattle.rv_insn.specs.declared.insn.Insn.{Insn}
use Rattle.rv_insn.specs.Range.{InRange}
use Rattle.asm_lines.specs.declared.statement.SectionKind.{SectionKind}
use Rattle.asm_lines.specs.declared.statement.SectionKind.TheVariants.{Text, Bss}
use Rattle.asm_state.specs.declared.section.Code.{Code}
use Rattle.asm_state.specs.declared.section.Patch.{Patch}
use Rattle.asm_state.specs.declared.section.Target.{Target}
use Rattle.asm_state.specs.Names.{has, number_of}

-- ---- one section

-- a section: its bytes, with zeros where an instruction stands, its instructions and its relocations; a
-- section of zeros alone has a size and no bytes
pub record Made : Type 0 where
  pub kind : SectionKind
  pub align : ℕ
  pub size : ℕ
  pub bytes : List ℕ
  pub code : List Code
  pub patches : List Patch

abbrev pub is_bss : SectionKind → Bool
is_bss Bss = true
is_bss _ = false

-- the most bytes of a section
abbrev pub largest : ℕ
largest = 0x1000000

-- sections of text start with the alignment of an instruction
abbrev pub first_align : SectionKind → ℕ
first_align Text = 4
first_align _ = 1

abbrev pub fresh : SectionKind → ℕ → Made
fresh kind align = record { kind = kind; align = align; size = 0; bytes = []; code = []; patches = [] }

abbrev pub with_bytes : List ℕ → Made → Made
with_bytes bytes m = record m { size = m.size + length bytes; bytes = m.bytes ++ bytes }

abbrev pub with_zeros : ℕ → Made → Made
with_zeros n m = if is_bss m.kind then record m { size = m.size + n } else with_bytes (replicate n 0) m

-- the instruction's word stands here
abbrev pub with_code : Insn → Option Target → Made → Made
with_code insn target m =
    with_bytes (0 ∷ 0 ∷ 0 ∷ 0 ∷ []) (record m { code = m.code ++ (record { at = m.size; insn = insn; target = target }) ∷ [] })

-- a relocation of what stands next
abbrev pub with_patch : ℕ → Option ℕ → ℤ → Bool → Made → Made
with_patch kind symbol addend fills m =
    record m { patches = m.patches ++ (record { at = m.size; kind = kind; symbol = symbol; addend = addend; fills = fills }) ∷ [] }

abbrev pub raised : ℕ → Made → Made
raised align m = record m { align = max align m.align }

-- instructions stand one after the other, from a place up to another
abbrev pub StandIn : ℕ → List Code → ℕ → Type 0
StandIn from [] to = from ≤ to
StandIn from (c ∷ cs) to = (from ≤ c.at) × StandIn (c.at + 4) cs to

-- what every section keeps
pub record IsMade (m : Made) : Type 0 where
  pub small : m.size ≤ largest
  pub sized : is_bss m.kind ≡ false → m.size ≡ length m.bytes
  pub in_range : All (λ c. InRange c.insn) m.code
  pub placed : StandIn 0 m.code (length m.bytes)

-- ---- all sections

-- the sections in order of first mention, with their names, and the number of the current one; at the
-- start that is `.text`, whose alignment is kept where it isn't mentioned yet
pub record Sections : Type 0 where
  pub names : List (List ℕ)
  pub made : List Made
  pub current : Option ℕ
  pub text_align : ℕ

abbrev pub no_sections : Sections
no_sections = record { names = []; made = []; current = None; text_align = 4 }

abbrev pub IsCurrent : Sections → Option ℕ → Type 0
IsCurrent s None = s.names ≡ []
IsCurrent s (Some n) = n < length s.names

pub record IsBook (s : Sections) : Type 0 where
  pub there : length s.names ≡ length s.made
  pub current_in : IsCurrent s s.current
  pub small_align : s.text_align ≤ 4096

abbrev pub align_of : List ℕ → SectionKind → Sections → ℕ
align_of name kind s = if bytes_eq name (codes ".text") then s.text_align else first_align kind

-- a section that is new
abbrev pub begun : List ℕ → SectionKind → Sections → Sections
begun name kind s =
    record s { names = s.names ++ name ∷ []; made = s.made ++ fresh kind (align_of name kind s) ∷ []; current = Some (length s.names) }

-- the section of a name is current
unfoldable pub entered : List ℕ → SectionKind → Sections → Sections
entered name kind s = if has name s.names then record s { current = Some (number_of name s.names) } else begun name kind s

abbrev pub opened_at : Option ℕ → Sections → Sections
opened_at None s = begun (codes ".text") Text s
opened_at (Some n) s = s

-- the current section is mentioned
unfoldable pub opened : Sections → Sections
opened s = opened_at s.current s

abbrev pub number_at : Option ℕ → ℕ
number_at None = 0
number_at (Some n) = n

-- the current section's number, and the section
abbrev pub current_number : Sections → ℕ
current_number s = number_at s.current

abbrev pub current : Sections → Made
current s = slice_index_or s.made (current_number s) (fresh Text s.text_align)

abbrev pub changed : (Made → Made) → Sections → Sections
changed f s = record s { made = slice_set s.made (current_number s) (f (current s)) }

-- the current section is mentioned and changed
unfoldable pub in_current : (Made → Made) → Sections → Sections
in_current f s = changed f (opened s)

abbrev pub raised_at : Option ℕ → ℕ → Sections → Sections
raised_at None align s = record s { text_align = max align s.text_align }
raised_at (Some n) align s = changed (raised align) s

-- the current section's alignment is at least this, which is no mention
unfoldable pub aligned : ℕ → Sections → Sections
aligned align s = raised_at s.current align s
