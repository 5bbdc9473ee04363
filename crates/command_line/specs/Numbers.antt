-- The numbers of a command line.
use Rattle.std.specs.Prelude.{ℕ, ◌+◌, ◌-◌, ◌*◌, Bool, List, [], ◌∷◌, ◌&&◌, ◌||◌, not, slice_index, codes, length, nat_lt, nat_le, nat_eq, Option, Some, None, if◌then◌else◌}
use Rattle.std.specs.Str.{bytes_eq}

-- the digits 0 to 9
abbrev pub is_digit : ℕ → Bool
is_digit c = nat_le 48 c && nat_le c 57

-- the number that digits write after those that wrote n
abbrev pub number_after : ℕ → List ℕ → Option ℕ
number_after n [] = Some n
number_after n (c ∷ cs) = if is_digit c then number_after (10 * n + (c - 48)) cs else None

-- a number is `0`, or digits that don't begin with 0
abbrev pub number_of : List ℕ → Option ℕ
number_of [] = None
number_of (c ∷ cs) = if nat_eq c 48 && nat_lt 0 (length cs) then None else number_after 0 (c ∷ cs)

-- a number, if it is small enough
abbrev pub at_most : ℕ → Option ℕ → Option ℕ
at_most most (Some n) = if nat_le n most then Some n else None
at_most most None = None

-- a number, if it isn't 0
abbrev pub from_one : Option ℕ → Option ℕ
from_one (Some n) = if nat_eq n 0 then None else Some n
from_one None = None

-- the number that a text is, where one is given, and else the usual one
abbrev pub number_or : ℕ → ℕ → Option (List ℕ) → Option ℕ
number_or usual most (Some text) = at_most most (number_of text)
number_or usual most None = Some usual

-- a text that begins with `+`, or with 0 and isn't `0`
abbrev pub is_padded : List ℕ → Bool
is_padded text = nat_eq (slice_index text 0) 43 || (nat_eq (slice_index text 0) 48 && not (bytes_eq text (codes "0")))
