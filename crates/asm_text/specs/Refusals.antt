-- Which lines are refused for what the lines before them said.
use Rattle.std.specs.Prelude.{ℕ, ◌+◌, ◌-◌, ◌*◌, ◌%◌, Bool, true, false, ◌&&◌, ◌||◌, not, ◌==◌, nat_lt, nat_le, List, length, Option, Some, None, if◌then◌else◌}
use Rattle.std.specs.Str.{bytes_eq}
use Rattle.rv_insn.specs.declared.insn.Insn.{Insn}
use Rattle.asm_lines.specs.declared.statement.AsmWhy.{AsmWhy}
use Rattle.asm_lines.specs.declared.statement.AsmWhy.TheVariants as why
use Rattle.asm_lines.specs.declared.statement.Fixup.{Fixup}
use Rattle.asm_lines.specs.declared.statement.Statement.{Statement}
use Rattle.asm_lines.specs.declared.statement.Statement.TheVariants as statement
use Rattle.asm_state.specs.Names.{has}
use Rattle.asm_state.specs.Reach.{distance_to, is_far}
use Rattle.asm_state.specs.Symbols.{said_of}
use Rattle.asm_state.specs.Sections.{is_bss, largest, current_number}
use Rattle.asm_text.specs.Known.{Known, is_defined, is_text, kind_here, size_here}

-- a relocation of a branch or a jump
abbrev pub is_branch : ℕ → Bool
is_branch kind = kind == 16 || kind == 17

-- a branch that is filled in where its label is a local one of the section
abbrev pub fills : Fixup → Known → Bool
fills fixup k = is_branch fixup.kind && not k.relax

-- the branch would be filled in, and its label is out of reach
unfoldable pub is_too_far : Insn → Fixup → Known → Bool
is_too_far insn fixup k = fills fixup k && is_far insn (distance_to (current_number k.sections) (size_here k) (said_of fixup.symbol k.symbols))

-- ---- names

abbrev pub is_label : Option (List ℕ) → List ℕ → Bool
is_label None name = false
is_label (Some label) name = bytes_eq label name

-- a label is new
abbrev pub label_refusal : Option (List ℕ) → Known → Option AsmWhy
label_refusal None k = None
label_refusal (Some name) k = if is_defined name k.symbols then Some why.Label else None

-- a common symbol is new, also beside the label of its line
abbrev pub takes_name : Option (List ℕ) → Statement → Known → Bool
takes_name label (statement.Common symbol size align) k = is_defined symbol k.symbols || is_label label symbol
takes_name label _ k = false

-- ---- sections

-- there is room for so many bytes
abbrev pub has_room : ℕ → Known → Bool
has_room n k = nat_le (size_here k + n) largest

-- so many bytes that aren't zeros may stand here
abbrev pub takes_bytes : ℕ → Known → Bool
takes_bytes n k = not (is_bss (kind_here k)) && has_room n k

-- the bytes up to the next multiple
abbrev pub gap : ℕ → ℕ → ℕ
gap align size = (align - size % align) % align

-- where the linker may relax, it takes what it doesn't need of all that may be needed
abbrev pub padding_of : Bool → ℕ → ℕ → ℕ
padding_of relaxed align size = if relaxed && nat_le 4 align then align - 4 else gap align size

-- how many bytes `.balign` writes
unfoldable pub padding : ℕ → Known → ℕ
padding align k = padding_of (is_text (kind_here k) && k.relax) align (size_here k)

-- in text they are instructions
abbrev pub takes_padding : ℕ → Known → Bool
takes_padding n k = (not (is_text (kind_here k)) || n % 4 == 0) && has_room n k

-- the most sections
abbrev pub section_limit : ℕ
section_limit = 16384

-- there may be one more section, where this one is new
abbrev pub takes_section : List ℕ → Known → Bool
takes_section name k = has name k.sections.names || nat_lt (length k.sections.names) section_limit

-- the section takes what the statement says, or there may be one more
unfoldable pub fits : Statement → Known → Bool
fits (statement.Section name kind) k = takes_section name k
fits (statement.Values width items) k = takes_bytes (width * length items) k
fits (statement.Ascii bytes) k = takes_bytes (length bytes) k
fits (statement.Zero n) k = has_room n k
fits (statement.Align align) k = takes_padding (padding align k) k
fits (statement.Code insn fixup) k = takes_bytes 4 k
fits (statement.Call first second symbol) k = takes_bytes 8 k
fits _ k = true

-- a number stands before the section
abbrev pub misfit_branch : Insn → Fixup → Known → AsmWhy
misfit_branch insn fixup k = if is_too_far insn fixup k then why.Number else why.Section

abbrev pub misfit : Statement → Known → AsmWhy
misfit (statement.Code insn (Some fixup)) k = misfit_branch insn fixup k
misfit _ k = why.Section

-- why a statement can't stand here, if it can't
unfoldable pub refusal : Option (List ℕ) → Statement → Known → Option AsmWhy
refusal label s k = if takes_name label s k then Some why.Name else if fits s k then None else Some (misfit s k)
