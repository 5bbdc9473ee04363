-- The object that a text is, or its first bad line.
use Rattle.std.specs.Prelude.{◌≡◌, ℕ, List, Option, Some, None, Result, Ok, Err}
use Rattle.elf_read.specs.declared.object.ElfObject.{ElfObject}
use Rattle.asm_lines.specs.declared.statement.AsmWhy.TheVariants.{Number}
use Rattle.asm_text.specs.declared.reading.BadLine.{BadLine}
use Rattle.asm_text.specs.Known.{Known}
use Rattle.asm_text.specs.Texts.{reading}
use Rattle.rv_asm.specs.declared.error.AsmError.{AsmError}
use Rattle.rv_asm.specs.declared.error.AsmError.TheVariants as error
use Rattle.rv_asm.specs.Symbols.{symbol_table}
use Rattle.rv_asm.specs.Branches.{first_far_from}
use Rattle.rv_asm.specs.Sections.{AreSections}

-- the object of what all lines said
pub record IsObject (k : Known) (o : ElfObject) : Type 0 where
  pub sections_are : AreSections k o.sections
  pub symbols_are : o.symbols ≡ symbol_table k.symbols

-- a branch that can't go so far stands before the line that ended reading, if one did
abbrev pub first_bad : Option ℕ → Option BadLine → Option BadLine
first_bad None bad = bad
first_bad (Some line) bad = Some (record { line = line; why = Number })

-- the first line that is refused: branches are judged by all labels that were read
unfoldable pub bad_line : Known × Option BadLine → Option BadLine
bad_line (k, bad) = first_bad (first_far_from k.symbols 0 k.sections.made) bad

unfoldable pub known : Known × Option BadLine → Known
known (k, bad) = k

abbrev pub IsAnswer : Known × Option BadLine → Result ElfObject AsmError → Type 0
IsAnswer read (Ok o) = (bad_line read ≡ None) × IsObject (known read) o
IsAnswer read (Err (error.BadLine line why)) = bad_line read ≡ Some (record { line = line; why = why })
IsAnswer read (Err error.NoMemory) = Unit {0}

-- what an assembler answers to a text: its object or its first bad line, unless memory ran out
abbrev pub Assembles : List ℕ → Result ElfObject AsmError → Type 0
Assembles text answer = IsAnswer (reading text) answer

-- a text has one object at most
abbrev pub HaveOneObject : Type 0
HaveOneObject = (text : List ℕ) (one other : ElfObject) → Assembles text (Ok one) → Assembles text (Ok other) → one ≡ other
