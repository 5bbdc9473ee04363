-- What the lines of a text say, up to its end or the first line that is refused.
use Rattle.std.specs.Prelude.{ℕ, ◌+◌, ◌==◌, Bool, List, [], ◌∷◌, Option, Some, None, Result, Ok, Err}
use Rattle.std.specs.List.{slice_split}
use Rattle.asm_lines.specs.declared.statement.AsmWhy.{AsmWhy}
use Rattle.asm_lines.specs.declared.statement.Statement.{Statement}
use Rattle.asm_lines.specs.Lines.{label_of_line, statement_of_line}
use Rattle.asm_text.specs.declared.reading.BadLine.{BadLine}
use Rattle.asm_text.specs.Known.{Known, nothing_known}
use Rattle.asm_text.specs.Refusals.{label_refusal, refusal}
use Rattle.asm_text.specs.Said.{line_said}

-- ---- one line

-- what is known after a line, and why it was refused, if it was: then what is known stays
abbrev pub unless : Option AsmWhy → Known → Known × Option AsmWhy → Known × Option AsmWhy
unless None k next = next
unless (Some why) k next = (k, Some why)

abbrev pub going_on : {A : Type 0} → Result A AsmWhy → Known → (A → Known × Option AsmWhy) → Known × Option AsmWhy
going_on (Ok a) k next = next a
going_on (Err why) k next = (k, Some why)

abbrev pub statement_read : ℕ → Option (List ℕ) → Statement → Known → Known × Option AsmWhy
statement_read line label s k = unless (refusal label s k) k (line_said line label s k, None)

abbrev pub labelled_read : ℕ → Option (List ℕ) → List ℕ → Known → Known × Option AsmWhy
labelled_read line label text k =
    unless (label_refusal label k) k (going_on (statement_of_line text) k (λ s. statement_read line label s k))

-- a line and its number: its label is checked before its statement is read
unfoldable pub line_read : ℕ → List ℕ → Known → Known × Option AsmWhy
line_read line text k = going_on (label_of_line text) k (λ label. labelled_read line label text k)

-- ---- all lines

abbrev pub is_newline : ℕ → Bool
is_newline b = b == 10

-- the lines of a text, without their newlines; after the last newline stands an empty line, which says
-- nothing
unfoldable pub lines_of : List ℕ → List (List ℕ)
lines_of text = slice_split is_newline text

-- what was known when reading ended, and the line that ended it, if one was refused
abbrev pub read_on : ℕ → Known × Option AsmWhy → (Known → Known × Option BadLine) → Known × Option BadLine
read_on line (k, None) next = next k
read_on line (k, Some why) next = (k, Some (record { line = line; why = why }))

-- the lines from here on, after so many
abbrev pub read_from : ℕ → Known → List (List ℕ) → Known × Option BadLine
read_from line k [] = (k, None)
read_from line k (text ∷ texts) = read_on (line + 1) (line_read (line + 1) text k) (λ more. read_from (line + 1) more texts)

-- what a text says
unfoldable pub reading : List ℕ → Known × Option BadLine
reading text = read_from 0 nothing_known (lines_of text)
