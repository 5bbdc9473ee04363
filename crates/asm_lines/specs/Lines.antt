-- What a line is: a label, and a statement.
use Rattle.std.specs.Prelude.{ℕ, ◌&&◌, List, [], ◌∷◌, Option, Some, None, Result, Ok, Err, if◌then◌else◌}
use Rattle.asm_lines.specs.declared.statement.AsmWhy.{AsmWhy}
use Rattle.asm_lines.specs.declared.statement.AsmWhy.TheVariants as why
use Rattle.asm_lines.specs.declared.statement.Statement.{Statement}
use Rattle.asm_lines.specs.declared.statement.Statement.TheVariants.{Nothing}
use Rattle.asm_lines.specs.Directives.{worded_statement}
use Rattle.asm_lines.specs.Statements.{is_short}
use Rattle.asm_lines.specs.Words.{is_symbol, code_of, has_label, label_text, statement_text, first_word, operands_text}

-- what stands before the colon, if there is one
abbrev pub label_text_of : List ℕ → Option (List ℕ)
label_text_of code = if has_label code then Some (label_text code) else None

-- a symbol of at most 4,096 bytes
abbrev pub checked_label : List ℕ → Result (Option (List ℕ)) AsmWhy
checked_label text = if is_symbol text && is_short text then Ok (Some text) else Err why.Label

abbrev pub label_from : Option (List ℕ) → Result (Option (List ℕ)) AsmWhy
label_from None = Ok None
label_from (Some text) = checked_label text

-- the label of a line
unfoldable pub label_of_line : List ℕ → Result (Option (List ℕ)) AsmWhy
label_of_line line = label_from (label_text_of (code_of line))

abbrev pub statement_from : List ℕ → Result Statement AsmWhy
statement_from [] = Ok Nothing
statement_from (b ∷ bs) = worded_statement (first_word (b ∷ bs)) (operands_text (b ∷ bs))

-- the statement of a line
unfoldable pub statement_of_line : List ℕ → Result Statement AsmWhy
statement_of_line line = statement_from (statement_text (code_of line))
