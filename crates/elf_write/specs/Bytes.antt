-- Numbers and names as they stand in a file (System V gABI, "Data Representation": ELFDATA2LSB; "String
-- Table").
use Rattle.std.specs.Prelude.{ℕ, zero, suc, ◌-◌, ◌/◌, ◌%◌, List, [], ◌∷◌, ◌++◌, length, replicate}

-- the lowest bytes of a number, the lowest first
unfoldable pub number_bytes : ℕ → ℕ → List ℕ
number_bytes zero n = []
number_bytes (suc width) n = n % 256 ∷ number_bytes width (n / 256)

abbrev pub zeros : ℕ → List ℕ
zeros n = replicate n 0

-- how many bytes it is to the next multiple of eight
abbrev pub gap : ℕ → ℕ
gap n = (8 - n % 8) % 8

-- the bytes, and zeros up to the next multiple of eight
abbrev pub filled : List ℕ → List ℕ
filled bytes = bytes ++ zeros (gap (length bytes))

-- ---- string tables

-- a table without names
abbrev pub no_strings : List ℕ
no_strings = 0 ∷ []

-- where a name stands that is put at the end of a table; an empty one stands at its start
abbrev pub string_place : List ℕ → List ℕ → ℕ
string_place [] strings = 0
string_place (b ∷ bs) strings = length strings

-- the table with the name at its end, and a zero byte after it; an empty name is there already
abbrev pub with_string : List ℕ → List ℕ → List ℕ
with_string [] strings = strings
with_string (b ∷ bs) strings = strings ++ (b ∷ bs) ++ 0 ∷ []
