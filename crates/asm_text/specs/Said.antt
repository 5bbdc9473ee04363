-- What is known after a good line.
use Rattle.std.specs.Prelude.{ℕ, ◌/◌, Bool, true, false, ◌&&◌, ◌==◌, List, [], ◌∷◌, take, ℤ, pos, Option, Some, None, if◌then◌else◌}
use Rattle.std.specs.Int.{to_le_bytes, w64}
use Rattle.std.specs.List.{repeat}
use Rattle.orc_words.specs.Bits.{low_of}
use Rattle.rv_insn.specs.declared.insn.Insn.{Insn}
use Rattle.asm_lines.specs.declared.statement.Fixup.{Fixup}
use Rattle.asm_lines.specs.declared.statement.Item.{Item}
use Rattle.asm_lines.specs.declared.statement.Item.TheVariants as item
use Rattle.asm_lines.specs.declared.statement.Statement.{Statement}
use Rattle.asm_lines.specs.declared.values.Reference.{Reference}
use Rattle.asm_lines.specs.declared.statement.Statement.TheVariants as statement
use Rattle.asm_state.specs.declared.marks.Definition.TheVariants.{Common}
use Rattle.asm_state.specs.declared.section.Target.{Target}
use Rattle.asm_state.specs.Names.{number_of}
use Rattle.asm_state.specs.Symbols.{mentioning, remarked, as_global, as_weak, as_hidden, as_defined, labelled}
use Rattle.asm_state.specs.Sections.{Made, with_bytes, with_zeros, with_code, with_patch, entered, opened, in_current, aligned, current, current_number}
use Rattle.asm_text.specs.Known.{Known, with_symbols, with_sections, is_text, kind_here}
use Rattle.asm_text.specs.Refusals.{fills, padding}

-- the current section is mentioned and changed
abbrev pub here : (Made → Made) → Known → Known
here change k = with_sections (in_current change k.sections) k

abbrev pub mentioned : List ℕ → Known → Known
mentioned name k = with_symbols (mentioning name k.symbols) k

-- the number of a symbol that is mentioned
abbrev pub number_here : List ℕ → Known → ℕ
number_here name k = number_of name k.symbols.names

abbrev pub with_relocation : ℕ → List ℕ → ℤ → Bool → Known → Known
with_relocation kind name addend fills k = here (with_patch kind (Some (number_here name k)) addend fills) k

-- a relocation against a symbol, of what stands next
unfoldable pub against : ℕ → List ℕ → ℤ → Bool → Known → Known
against kind name addend fills k = with_relocation kind name addend fills (mentioned name k)

-- the line's label, at the place that comes next
abbrev pub label_at : List ℕ → Known → Known
label_at name k = record k { symbols = labelled name (current_number k.sections) (current k.sections).size k.symbols }

-- a label mentions the section
abbrev pub defined_here : List ℕ → Known → Known
defined_here name k = label_at name (with_sections (opened k.sections) k)

unfoldable pub labelled_line : Option (List ℕ) → Known → Known
labelled_line None k = k
labelled_line (Some name) k = defined_here name k

-- ---- data

-- the lowest bytes of a number, as two's complement has them, the lowest first
unfoldable pub number_bytes : ℕ → ℤ → List ℕ
number_bytes width n = take width (to_le_bytes w64 (low_of 64 n))

-- the relocation of an address in four or eight bytes
abbrev pub address_kind : ℕ → ℕ
address_kind width = if width == 4 then 1 else 2

abbrev pub with_number : ℕ → ℤ → Made → Made
with_number width n = with_bytes (number_bytes width n)

-- an address is its relocation's to write
abbrev pub with_address : ℕ → Reference → Known → Known
with_address width reference k =
    here (with_zeros width) (against (address_kind width) reference.symbol reference.addend false k)

unfoldable pub with_item : ℕ → Item → Known → Known
with_item width (item.Number n) k = here (with_number width n) k
with_item width (item.Address reference) k = with_address width reference k

abbrev pub with_items : ℕ → List Item → Known → Known
with_items width [] k = k
with_items width (item ∷ items) k = with_items width items (with_item width item k)

-- ---- padding

abbrev pub nop : List ℕ
nop = 0x13 ∷ 0 ∷ 0 ∷ 0 ∷ []

abbrev pub padding_bytes : ℕ → Known → Made → Made
padding_bytes n k = if is_text (kind_here k) then with_bytes (repeat (n / 4) nop) else with_zeros n

-- where the linker may relax, ALIGN marks the padding
abbrev pub marked_padding : ℕ → Known → Known
marked_padding n k = if is_text (kind_here k) && k.relax then here (with_patch 43 None (pos n) false) k else k

unfoldable pub padded : ℕ → Known → Known
padded n k = if n == 0 then k else here (padding_bytes n k) (marked_padding n k)

abbrev pub aligned_to : ℕ → Known → Known
aligned_to align k = with_sections (aligned align k.sections) k

-- the padding, and then the section's own alignment
abbrev pub aligned_next : ℕ → Known → Known
aligned_next align k = aligned_to align (padded (padding align k) k)

-- ---- instructions

abbrev pub target_of : Bool → ℕ → ℕ → Option Target
target_of false line number = None
target_of true line number = Some (record { symbol = number; line = line })

abbrev pub with_target : ℕ → Insn → List ℕ → Bool → Known → Known
with_target line insn symbol fills k = here (with_code insn (target_of fills line (number_here symbol k))) k

abbrev pub with_fixup : ℕ → Insn → Fixup → Known → Known
with_fixup line insn fixup k =
    with_target line insn fixup.symbol (fills fixup k) (against fixup.kind fixup.symbol fixup.addend (fills fixup k) k)

unfoldable pub with_insn : ℕ → Insn → Option Fixup → Known → Known
with_insn line insn None k = here (with_code insn None) k
with_insn line insn (Some fixup) k = with_fixup line insn fixup k

-- the relocation of a call is that of both its instructions
unfoldable pub with_call : Insn → Insn → List ℕ → Known → Known
with_call first second symbol k = here (with_code second None) (here (with_code first None) (against 19 symbol (pos 0) false k))

-- ---- statements

-- nothing is no mention of the section
abbrev pub with_ascii : List ℕ → Known → Known
with_ascii [] k = k
with_ascii (b ∷ bs) k = here (with_bytes (b ∷ bs)) k

abbrev pub with_gap : ℕ → Known → Known
with_gap n k = if n == 0 then k else here (with_zeros n) k

-- what a statement says of the current section's contents
abbrev pub contained : ℕ → Statement → Known → Known
contained line (statement.Values width items) k = with_items width items k
contained line (statement.Ascii bytes) k = with_ascii bytes k
contained line (statement.Zero n) k = with_gap n k
contained line (statement.Align align) k = aligned_next align k
contained line (statement.Code insn fixup) k = with_insn line insn fixup k
contained line (statement.Call first second symbol) k = with_call first second symbol k
contained line _ k = k

-- what a statement says of sections and symbols, and of contents
unfoldable pub stated : ℕ → Statement → Known → Known
stated line (statement.Section name kind) k = with_sections (entered name kind k.sections) k
stated line (statement.Global symbol) k = with_symbols (remarked as_global symbol k.symbols) k
stated line (statement.Weak symbol) k = with_symbols (remarked as_weak symbol k.symbols) k
stated line (statement.Hidden symbol) k = with_symbols (remarked as_hidden symbol k.symbols) k
stated line (statement.Common symbol size align) k = with_symbols (remarked (as_defined (Common size align)) symbol k.symbols) k
stated line (statement.Relax relax) k = record k { relax = relax }
stated line s k = contained line s k

-- what is known after the line of a number
abbrev pub line_said : ℕ → Option (List ℕ) → Statement → Known → Known
line_said line label s k = stated line s (labelled_line label k)
