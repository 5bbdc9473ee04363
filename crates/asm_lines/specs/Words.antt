-- The words of a line: blanks, symbols and what stands outside strings.
use Rattle.std.specs.Prelude.{ℕ, ◌+◌, ◌-◌, Bool, true, false, ◌&&◌, ◌||◌, not, ◌==◌, nat_lt, nat_le, List, [], ◌∷◌, length, take, drop, if◌then◌else◌}
use Rattle.std.specs.List.{list_all, position_or_len, suffix_len}
use Rattle.asm_lines.specs.declared.quotes.Quote.{Quote}
use Rattle.asm_lines.specs.declared.quotes.Quote.TheVariants.{Outside, Inside, Escaped}

-- a space or a tab
abbrev pub is_blank : ℕ → Bool
is_blank b = b == 32 || b == 9

abbrev pub is_digit : ℕ → Bool
is_digit b = nat_le 48 b && nat_le b 57

abbrev pub is_letter : ℕ → Bool
is_letter b = (nat_le 65 b && nat_le b 90) || (nat_le 97 b && nat_le b 122)

-- `_`, `.` and `$`
abbrev pub is_mark : ℕ → Bool
is_mark b = b == 95 || b == 46 || b == 36

-- a byte that a symbol is made of
abbrev pub is_symbol_byte : ℕ → Bool
is_symbol_byte b = is_letter b || is_digit b || is_mark b

-- letters, digits, `_`, `.` and `$`, of which a digit is not the first
unfoldable pub is_symbol : List ℕ → Bool
is_symbol [] = false
is_symbol (b ∷ bs) = not (is_digit b) && list_all is_symbol_byte (b ∷ bs)

-- ---- blanks

-- the blanks that a text begins with
abbrev pub blanks_len : List ℕ → ℕ
blanks_len text = position_or_len (λ b. not (is_blank b)) text

-- a text without the blanks that it begins with
unfoldable pub after_blanks : List ℕ → List ℕ
after_blanks text = drop (blanks_len text) text

-- a text without the blanks that it ends with
unfoldable pub before_blanks : List ℕ → List ℕ
before_blanks text = take (length text - suffix_len is_blank text) text

unfoldable pub trimmed : List ℕ → List ℕ
trimmed text = before_blanks (after_blanks text)

-- ---- strings

-- where the next byte stands: `"` begins and ends a string, and in one `\` escapes the byte after it
abbrev pub after_byte : Quote → ℕ → Quote
after_byte Outside b = if b == 34 then Inside else Outside
after_byte Inside b = if b == 34 then Outside else if b == 92 then Escaped else Inside
after_byte Escaped b = Inside

abbrev pub is_outside : Quote → Bool
is_outside Outside = true
is_outside Inside = false
is_outside Escaped = false

-- how many bytes stand before the first byte of this value that is outside strings
abbrev pub outside_len : ℕ → Quote → List ℕ → ℕ
outside_len wanted quote [] = 0
outside_len wanted quote (b ∷ bs) = if is_outside quote && b == wanted then 0 else 1 + outside_len wanted (after_byte quote b) bs

-- ---- a line and its parts

-- a line without its comment
unfoldable pub code_of : List ℕ → List ℕ
code_of line = take (outside_len 35 Outside line) line

-- how many bytes stand before a label's colon
abbrev pub colon_at : List ℕ → ℕ
colon_at code = outside_len 58 Outside code

-- whether there is a label
unfoldable pub has_label : List ℕ → Bool
has_label code = nat_lt (colon_at code) (length code)

-- what stands before the label's colon
unfoldable pub label_text : List ℕ → List ℕ
label_text code = after_blanks (take (colon_at code) code)

-- the statement
unfoldable pub statement_text : List ℕ → List ℕ
statement_text code = trimmed (if has_label code then drop (colon_at code + 1) code else code)

-- the first word of a statement ends at a blank
unfoldable pub first_word : List ℕ → List ℕ
first_word text = take (position_or_len is_blank text) text

unfoldable pub operands_text : List ℕ → List ℕ
operands_text text = after_blanks (drop (position_or_len is_blank text) text)
