-- The statements of directives (GNU as, "Pseudo Ops").
use Rattle.std.specs.Prelude.{ℕ, ◌+◌, ◌*◌, Bool, true, false, ◌&&◌, ◌||◌, not, ◌==◌, nat_le, nat_lt, List, [], ◌∷◌, length, take, drop, ℤ, Option, Some, None, Result, Ok, Err, if◌then◌else◌, codes}
use Rattle.std.specs.List.{list_all, position_or_len}
use Rattle.std.specs.Str.{bytes_eq}
use Rattle.orc_words.specs.Bits.{fits_bits}
use Rattle.asm_lines.specs.declared.statement.AsmWhy.{AsmWhy}
use Rattle.asm_lines.specs.declared.statement.AsmWhy.TheVariants as why
use Rattle.asm_lines.specs.declared.statement.Item.{Item}
use Rattle.asm_lines.specs.declared.statement.Item.TheVariants as item
use Rattle.asm_lines.specs.declared.statement.SectionKind.{SectionKind}
use Rattle.asm_lines.specs.declared.statement.SectionKind.TheVariants.{Text, Data, Bss, ReadOnly}
use Rattle.asm_lines.specs.declared.statement.Statement.{Statement}
use Rattle.asm_lines.specs.declared.statement.Statement.TheVariants as statement
use Rattle.asm_lines.specs.declared.values.Reference.{Reference}
use Rattle.asm_lines.specs.Insns.{lookup}
use Rattle.asm_lines.specs.Instructions.{instruction_of}
use Rattle.asm_lines.specs.Numbers.{number_of}
use Rattle.asm_lines.specs.Pieces.{pieces_of, taking, ending}
use Rattle.asm_lines.specs.Statements.{needed, checked, going_on, is_short, is_up_to, fits_either, magnitude, is_alignment}
use Rattle.asm_lines.specs.Values.{reference_of, difference_of, either}
use Rattle.asm_lines.specs.Words.{is_symbol, is_symbol_byte, is_blank}

-- ---- sections

abbrev pub section_kinds : List (List ℕ × SectionKind)
section_kinds =
    (codes ".text", Text)
    ∷ (codes ".data", Data)
    ∷ (codes ".bss", Bss)
    ∷ (codes ".rodata", ReadOnly)
    ∷ (codes ".eh_frame", ReadOnly)
    ∷ []

unfoldable pub section_kind : List ℕ → Option SectionKind
section_kind name = lookup name section_kinds

-- how many bytes stand before the second dot of a name
abbrev pub second_dot : List ℕ → ℕ
second_dot name = 1 + position_or_len (λ b. b == 46) (drop 1 name)

-- one of the names, or one of them followed by a dot and one or more bytes of symbols
unfoldable pub kind_of_name : List ℕ → Option SectionKind
kind_of_name name = let n = second_dot name in
    if nat_le (length name) n then section_kind name else
    if nat_lt (n + 1) (length name) && list_all is_symbol_byte (drop (n + 1) name) then section_kind (take n name) else None

-- what no name of a section has: a blank, a comma, a parenthesis or a quote
abbrev pub parts_names : ℕ → Bool
parts_names b = is_blank b || b == 44 || b == 40 || b == 41 || b == 34

abbrev pub is_section_word : List ℕ → Bool
is_section_word [] = false
is_section_word (b ∷ bs) = list_all (λ b. not (parts_names b)) (b ∷ bs)

abbrev pub allowed_section : List ℕ → Option SectionKind → Result Statement AsmWhy
allowed_section name None = Err why.Section
allowed_section name (Some kind) = Ok (statement.Section name kind)

unfoldable pub section_statement : List ℕ → Result Statement AsmWhy
section_statement text = if is_section_word text then allowed_section text (kind_of_name text) else Err why.Operands

-- `.text`, `.data` and `.bss` by themselves
unfoldable pub bare_section : List ℕ → SectionKind → List ℕ → Result Statement AsmWhy
bare_section name kind [] = Ok (statement.Section name kind)
bare_section name kind (b ∷ bs) = Err why.Operands

-- ---- symbols

-- one symbol
unfoldable pub symbol_operand : List ℕ → Result (List ℕ) AsmWhy
symbol_operand text = if is_symbol text then checked (is_short text) why.Name (Ok text) else Err why.Operands

-- ---- data

abbrev pub number_item : Option ℤ → Option Item
number_item None = None
number_item (Some n) = Some (item.Number n)

abbrev pub address_item : Option Reference → Option Item
address_item None = None
address_item (Some reference) = Some (item.Address reference)

-- S, S+N or S-N
unfoldable pub address_of : List ℕ → Option Item
address_of text = address_item (either (reference_of text) (difference_of text))

-- a number, or in four or eight bytes an address
unfoldable pub item_of : ℕ → List ℕ → Option Item
item_of width text = either (number_item (number_of text)) (if width == 4 || width == 8 then address_of text else None)

-- the first and the others, if each is there
abbrev pub joined : {A : Type 0} → Option A → Option (List A) → Option (List A)
joined None items = None
joined (Some item) None = None
joined (Some item) (Some items) = Some (item ∷ items)

abbrev pub items_of : ℕ → List (List ℕ) → Option (List Item)
items_of width [] = Some []
items_of width (piece ∷ pieces) = joined (item_of width piece) (items_of width pieces)

abbrev pub item_fits : ℕ → Item → Bool
item_fits width (item.Number n) = fits_either (8 * width) n
item_fits width (item.Address reference) = fits_bits 64 reference.addend

abbrev pub item_short : Item → Bool
item_short (item.Number n) = true
item_short (item.Address reference) = is_short reference.symbol

-- one or more items; their numbers are checked before their names
unfoldable pub values_statement : ℕ → List ℕ → Result Statement AsmWhy
values_statement width [] = Err why.Operands
values_statement width (b ∷ bs) =
    needed (items_of width (pieces_of (b ∷ bs))) (λ items.
    checked (list_all (item_fits width) items) why.Number (checked (list_all item_short items) why.Name (Ok (statement.Values width items))))

-- ---- strings

abbrev pub escape_of : ℕ → Option ℕ
escape_of b =
    if b == 110 then Some 10 else if b == 92 then Some 92 else if b == 34 then Some 34 else if b == 48 then Some 0 else None

-- the last quote is the last byte that is left
abbrev pub ended_string : ℕ → List ℕ → Option (List ℕ)
ended_string left bytes = if left == 1 then Some bytes else None

-- the bytes of a string, from after its first quote or, where a backslash stands before, after that
abbrev pub unescaped : Bool → List ℕ → Option (List ℕ)
unescaped escaped [] = None
unescaped true (b ∷ bs) = joined (escape_of b) (unescaped false bs)
unescaped false (b ∷ bs) =
    if b == 92 then unescaped true bs else
    if b == 34 then ended_string (length (b ∷ bs)) [] else
    joined (Some b) (unescaped false bs)

unfoldable pub string_of : List ℕ → Option (List ℕ)
string_of [] = None
string_of (b ∷ bs) = if b == 34 then unescaped false bs else None

unfoldable pub ascii_statement : List ℕ → Result Statement AsmWhy
ascii_statement text = needed (string_of text) (λ bytes. Ok (statement.Ascii bytes))

-- ---- sizes and alignments

abbrev pub largest_size : ℕ
largest_size = 0x1000000

unfoldable pub zero_statement : List ℕ → Result Statement AsmWhy
zero_statement text = needed (number_of text) (λ n. checked (is_up_to largest_size n) why.Number (Ok (statement.Zero (magnitude n))))

unfoldable pub align_statement : List ℕ → Result Statement AsmWhy
align_statement text = needed (number_of text) (λ n. checked (is_alignment n) why.Number (Ok (statement.Align (magnitude n))))

abbrev pub symbol_of : List ℕ → Option (List ℕ)
symbol_of text = if is_symbol text then Some text else None

unfoldable pub common_operands : List (List ℕ) → Option (List ℕ × ℤ × ℤ)
common_operands pieces =
    taking symbol_of pieces (λ symbol pieces. taking number_of pieces (λ size pieces. taking number_of pieces (λ align pieces. ending (symbol, size, align) pieces)))

unfoldable pub common_statement : List ℕ → Result Statement AsmWhy
common_statement text = needed (common_operands (pieces_of text)) (λ p.
    checked (is_up_to largest_size p.1 && is_alignment p.2) why.Number
    (checked (is_short p.0) why.Name (Ok (statement.Common p.0 (magnitude p.1) (magnitude p.2)))))

-- ---- options

unfoldable pub option_statement : List ℕ → Result Statement AsmWhy
option_statement text =
    if bytes_eq text (codes "relax") then Ok (statement.Relax true) else
    if bytes_eq text (codes "norelax") then Ok (statement.Relax false) else Err why.Operands

-- ---- all words

unfoldable pub size_directive : List ℕ → List ℕ → Result Statement AsmWhy
size_directive word text =
    if bytes_eq word (codes ".zero") then zero_statement text else
    if bytes_eq word (codes ".balign") then align_statement text else
    if bytes_eq word (codes ".comm") then common_statement text else
    if bytes_eq word (codes ".option") then option_statement text else
    instruction_of word text

abbrev pub global_statement : List ℕ → Result Statement AsmWhy
global_statement text = going_on (symbol_operand text) (λ symbol. Ok (statement.Global symbol))

abbrev pub weak_statement : List ℕ → Result Statement AsmWhy
weak_statement text = going_on (symbol_operand text) (λ symbol. Ok (statement.Weak symbol))

abbrev pub hidden_statement : List ℕ → Result Statement AsmWhy
hidden_statement text = going_on (symbol_operand text) (λ symbol. Ok (statement.Hidden symbol))

unfoldable pub symbol_directive : List ℕ → List ℕ → Result Statement AsmWhy
symbol_directive word text =
    if bytes_eq word (codes ".globl") then global_statement text else
    if bytes_eq word (codes ".weak") then weak_statement text else
    if bytes_eq word (codes ".hidden") then hidden_statement text else
    size_directive word text

unfoldable pub section_directive : List ℕ → List ℕ → Result Statement AsmWhy
section_directive word text =
    if bytes_eq word (codes ".text") then bare_section (codes ".text") Text text else
    if bytes_eq word (codes ".data") then bare_section (codes ".data") Data text else
    if bytes_eq word (codes ".bss") then bare_section (codes ".bss") Bss text else
    if bytes_eq word (codes ".section") then section_statement text else
    symbol_directive word text

-- the statement of a word and its operands
unfoldable pub worded_statement : List ℕ → List ℕ → Result Statement AsmWhy
worded_statement word text =
    if bytes_eq word (codes ".byte") then values_statement 1 text else
    if bytes_eq word (codes ".half") then values_statement 2 text else
    if bytes_eq word (codes ".word") then values_statement 4 text else
    if bytes_eq word (codes ".dword") then values_statement 8 text else
    if bytes_eq word (codes ".ascii") then ascii_statement text else
    section_directive word text
