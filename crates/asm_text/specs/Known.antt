-- What the lines so far have said.
use Rattle.std.specs.Prelude.{ℕ, Bool, true, false, not, List}
use Rattle.asm_lines.specs.declared.statement.SectionKind.{SectionKind}
use Rattle.asm_lines.specs.declared.statement.SectionKind.TheVariants.{Text}
use Rattle.asm_state.specs.declared.marks.Definition.{Definition}
use Rattle.asm_state.specs.declared.marks.Definition.TheVariants.{Nowhere}
use Rattle.asm_state.specs.Symbols.{Symbols, no_symbols, said_of}
use Rattle.asm_state.specs.Sections.{Sections, no_sections, current}

-- the symbols, the sections, and whether the linker may relax
pub record Known : Type 0 where
  pub symbols : Symbols
  pub sections : Sections
  pub relax : Bool

abbrev pub nothing_known : Known
nothing_known = record { symbols = no_symbols; sections = no_sections; relax = false }

abbrev pub with_symbols : Symbols → Known → Known
with_symbols symbols k = record k { symbols = symbols }

abbrev pub with_sections : Sections → Known → Known
with_sections sections k = record k { sections = sections }

abbrev pub is_nowhere : Definition → Bool
is_nowhere Nowhere = true
is_nowhere _ = false

-- a label or `.comm` defined the symbol
abbrev pub is_defined : List ℕ → Symbols → Bool
is_defined name s = not (is_nowhere (said_of name s).definition)

abbrev pub is_text : SectionKind → Bool
is_text Text = true
is_text _ = false

-- what the current section is for, and its size
abbrev pub kind_here : Known → SectionKind
kind_here k = (current k.sections).kind

abbrev pub size_here : Known → ℕ
size_here k = (current k.sections).size
