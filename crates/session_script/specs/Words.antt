-- Bytes, words, and how a text is cut into them.
use Rattle.std.specs.Prelude.{ℕ, ◌+◌, ◌-◌, ◌*◌, Bool, true, false, List, [], ◌∷◌, ◌&&◌, ◌||◌, ◌==◌, not, length, take, nat_lt, nat_le, slice_index, Option, Some, None, if◌then◌else◌}
use Rattle.std.specs.List.{list_all, before_first, after_first, slice_split}
use Rattle.orc_names.specs.declared.names.TheConstants.{NAME_LIMIT}
use Rattle.session_script.specs.declared.forms.Alphabet.{Alphabet}
use Rattle.session_script.specs.declared.forms.Alphabet.TheVariants as alphabet

-- the test that a byte is this one
abbrev pub is_byte : ℕ → ℕ → Bool
is_byte this b = b == this

-- the parts of a text that a byte parts; the text whole where it doesn't have the byte
abbrev pub parts : ℕ → List ℕ → List (List ℕ)
parts this text = slice_split (is_byte this) text

-- what stands before the first such byte, or all where there is none
abbrev pub before : ℕ → List ℕ → List ℕ
before this text = before_first (is_byte this) text

-- what stands after the first such byte, or nothing where there is none
abbrev pub after : ℕ → List ℕ → List ℕ
after this text = after_first (is_byte this) text

abbrev pub newline : ℕ
newline = 10

abbrev pub space : ℕ
space = 32

abbrev pub comma : ℕ
comma = 44

abbrev pub colon : ℕ
colon = 58

abbrev pub equals : ℕ
equals = 61

abbrev pub question : ℕ
question = 63

-- a byte onto the first of these lines
abbrev pub onto_first_line : ℕ → List (List ℕ) → List (List ℕ)
onto_first_line b [] = (b ∷ []) ∷ []
onto_first_line b (line ∷ lines) = (b ∷ line) ∷ lines

-- the lines of a text, each with the newline that ends it; the last may lack it
abbrev pub lines_of : List ℕ → List (List ℕ)
lines_of [] = []
lines_of (b ∷ bs) = if b == newline then (b ∷ []) ∷ lines_of bs else onto_first_line b (lines_of bs)

-- a line without its newline
abbrev pub text_of_line : List ℕ → List ℕ
text_of_line line = before newline line

abbrev pub is_empty : {X : Type 0} → List X → Bool
is_empty [] = true
is_empty (_ ∷ _) = false

-- a line that is empty or starts with `#`
abbrev pub is_skipped : List ℕ → Bool
is_skipped [] = true
is_skipped (b ∷ _) = b == 35

-- a byte that no line has
abbrev pub is_barred : ℕ → Bool
is_barred b = nat_lt b 32 || b == 127

-- A line's words are parted by single spaces: a double, a leading or a trailing space leaves an empty
-- word.
abbrev pub is_spaced : List (List ℕ) → Bool
is_spaced words = list_all (λ word. not (is_empty word)) words

abbrev pub is_letter : ℕ → Bool
is_letter b = nat_le 97 b && nat_le b 122 || nat_le 65 b && nat_le b 90

abbrev pub is_digit : ℕ → Bool
is_digit b = nat_le 48 b && nat_le b 57

-- the bytes that a word of each kind is made of
abbrev pub has_byte : Alphabet → ℕ → Bool
has_byte alphabet.Declared b = is_letter b || is_digit b || b == 95
has_byte alphabet.File b = nat_le 33 b && nat_le b 126
has_byte alphabet.Symbol b = nat_lt 32 b && not (b == 127) && not (b == comma) && not (b == equals) && not (b == 64)

-- a word of an alphabet
abbrev pub is_word : Alphabet → List ℕ → Bool
is_word kind word = not (is_empty word) && list_all (has_byte kind) word

-- the name of a dylib or a tracker: 1 to 4,096 letters, digits and `_`
abbrev pub is_name : List ℕ → Bool
is_name word = nat_le (length word) NAME_LIMIT && is_word alphabet.Declared word

abbrev pub is_file : List ℕ → Bool
is_file word = is_word alphabet.File word

abbrev pub are_files : List (List ℕ) → Bool
are_files words = list_all is_file words

abbrev pub is_marked : List ℕ → Bool
is_marked word = slice_index word (length word - 1) == question

-- a symbol's name: 1 to 4,096 bytes above 0x20, none of them 0x7F, `,`, `=` or `@`, and the last no `?`
abbrev pub is_symbol : List ℕ → Bool
is_symbol word = nat_le (length word) NAME_LIMIT && is_word alphabet.Symbol word && not (is_marked word)

-- a word without the `?` that ends it
abbrev pub unmarked : List ℕ → List ℕ
unmarked word = if is_marked word then take (length word - 1) word else word

-- what a digit counts: 0 to 9, then a to f for ten and on; 16 for what is no digit
abbrev pub digit_value : ℕ → ℕ
digit_value b = if is_digit b then b - 48 else if nat_le 97 b && nat_le b 102 then b - 87 else 16

-- the number that digits write after those that wrote n
abbrev pub number_after : ℕ → ℕ → List ℕ → Option ℕ
number_after base n [] = Some n
number_after base n (b ∷ bs) = if nat_lt (digit_value b) base then number_after base (base * n + digit_value b) bs else None

-- a number is `0`, or digits that don't begin with 0
abbrev pub number_in : ℕ → List ℕ → Option ℕ
number_in base [] = None
number_in base (b ∷ bs) = if b == 48 && not (is_empty bs) then None else number_after base 0 (b ∷ bs)

abbrev pub at_most : ℕ → Option ℕ → Option ℕ
at_most most (Some n) = if nat_le n most then Some n else None
at_most most None = None
