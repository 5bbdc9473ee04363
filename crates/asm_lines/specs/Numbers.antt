-- Numbers as a text writes them.
use Rattle.std.specs.Prelude.{ℕ, ◌+◌, ◌-◌, ◌*◌, min, Bool, false, ◌&&◌, ◌||◌, ◌==◌, nat_lt, nat_le, List, [], ◌∷◌, ℤ, pos, negsuc, zero, suc, Option, Some, None, if◌then◌else◌}
use Rattle.std.specs.List.{list_all}
use Rattle.asm_lines.specs.Words.{is_digit}

-- what a digit stands for, a letter in either case among them
abbrev pub digit_of : ℕ → ℕ
digit_of b = if is_digit b then b - 48 else if nat_le 97 b then b - 87 else b - 55

abbrev pub is_hex_digit : ℕ → Bool
is_hex_digit b = is_digit b || (nat_le 65 b && nat_le b 70) || (nat_le 97 b && nat_le b 102)

-- the number that digits go on with
abbrev pub value_from : ℕ → ℕ → List ℕ → ℕ
value_from base value [] = value
value_from base value (b ∷ bs) = value_from base (value * base + digit_of b) bs

-- a number past 2^64 fits no place, and stands as 2^64
abbrev pub largest : ℕ
largest = 0x1_0000_0000_0000_0000

abbrev pub value_of : ℕ → List ℕ → ℕ
value_of base digits = min (value_from base 0 digits) largest

abbrev pub minus : ℕ → ℤ
minus zero = pos 0
minus (suc n) = negsuc n

-- one or more digits
abbrev pub are_digits : (ℕ → Bool) → List ℕ → Bool
are_digits is_one [] = false
are_digits is_one (b ∷ bs) = list_all is_one (b ∷ bs)

unfoldable pub decimal_of : List ℕ → Option ℕ
decimal_of text = if are_digits is_digit text then Some (value_of 10 text) else None

unfoldable pub hexadecimal_of : List ℕ → Option ℕ
hexadecimal_of text = if are_digits is_hex_digit text then Some (value_of 16 text) else None

abbrev pub positive : Option ℕ → Option ℤ
positive None = None
positive (Some n) = Some (pos n)

abbrev pub negative : Option ℕ → Option ℤ
negative None = None
negative (Some n) = Some (minus n)

-- decimal digits, or `0x` and hexadecimal digits
unfoldable pub unsigned_of : List ℕ → Option ℕ
unsigned_of (z ∷ x ∷ digits) = if z == 48 && x == 120 then hexadecimal_of digits else decimal_of (z ∷ x ∷ digits)
unsigned_of text = decimal_of text

-- a number; a decimal one may have a minus
unfoldable pub number_of : List ℕ → Option ℤ
number_of [] = None
number_of (b ∷ bs) = if b == 45 then negative (decimal_of bs) else positive (unsigned_of (b ∷ bs))

-- a number that is no larger than that in size
abbrev pub is_small : ℤ → Bool
is_small (pos n) = nat_le n largest
is_small (negsuc n) = nat_lt n largest
