-- Arithmetic on 64-bit words (RISC-V unprivileged manual, "RV64I Base Integer Instruction Set" and
-- "M Extension for Integer Multiplication and Division"). A word stands for itself, or for a signed
-- number in two's complement. A result that is longer than a word keeps its low 64 bits. The forms
-- on 32 bits read the low 32 bits and sign-extend their 32-bit result.
use Rattle.std.specs.Prelude.{ℕ, ℤ, pos, ◌+◌, ◌-◌, ◌*◌, ◌/◌, ◌%◌, ◌^◌, ◌*ℤ◌, ◌==◌, nat_lt, int_lt, int_div, int_rem, if◌then◌else◌}
use Rattle.std.specs.Int.{int_shr}
use Rattle.orc_words.specs.Bits.{signed_of, low_of}

-- the word of an integer
unfoldable pub word_of : ℤ → ℕ
word_of z = low_of 64 z

-- the integer of a word
unfoldable pub signed : ℕ → ℤ
signed a = signed_of 64 a

-- a number of so many bits, sign-extended to a word
unfoldable pub extended : ℕ → ℕ → ℕ
extended bits a = word_of (signed_of bits a)

-- ---- sums and comparisons
abbrev pub sum : ℕ → ℕ → ℕ
sum a b = (a + b) % 2 ^ 64

abbrev pub difference : ℕ → ℕ → ℕ
difference a b = (a + (2 ^ 64 - b)) % 2 ^ 64

abbrev pub is_less : ℕ → ℕ → ℕ
is_less a b = if nat_lt a b then 1 else 0

abbrev pub is_less_signed : ℕ → ℕ → ℕ
is_less_signed a b = if int_lt (signed a) (signed b) then 1 else 0

abbrev pub sum_32 : ℕ → ℕ → ℕ
sum_32 a b = extended 32 (sum a b)

abbrev pub difference_32 : ℕ → ℕ → ℕ
difference_32 a b = extended 32 (difference a b)

-- ---- shifts, by the low six bits of the amount, and of 32 bits by the low five; a shift to the
-- right rounds down
abbrev pub shifted_left : ℕ → ℕ → ℕ
shifted_left a amount = a * 2 ^ (amount % 64) % 2 ^ 64

abbrev pub shifted_right : ℕ → ℕ → ℕ
shifted_right a amount = a / 2 ^ (amount % 64)

abbrev pub shifted_right_signed : ℕ → ℕ → ℕ
shifted_right_signed a amount = word_of (int_shr (signed a) (amount % 64))

abbrev pub shifted_left_32 : ℕ → ℕ → ℕ
shifted_left_32 a amount = extended 32 (a % 2 ^ 32 * 2 ^ (amount % 32))

abbrev pub shifted_right_32 : ℕ → ℕ → ℕ
shifted_right_32 a amount = extended 32 (a % 2 ^ 32 / 2 ^ (amount % 32))

abbrev pub shifted_right_signed_32 : ℕ → ℕ → ℕ
shifted_right_signed_32 a amount = word_of (int_shr (signed_of 32 a) (amount % 32))

-- ---- products, and the upper halves of products of 128 bits: of unsigned words, of signed ones, and
-- of a signed one by an unsigned one
abbrev pub product : ℕ → ℕ → ℕ
product a b = a * b % 2 ^ 64

abbrev pub upper_product : ℕ → ℕ → ℕ
upper_product a b = a * b / 2 ^ 64

abbrev pub upper_product_signed : ℕ → ℕ → ℕ
upper_product_signed a b = word_of (int_shr (signed a *ℤ signed b) 64)

abbrev pub upper_product_mixed : ℕ → ℕ → ℕ
upper_product_mixed a b = word_of (int_shr (signed a *ℤ pos b) 64)

abbrev pub product_32 : ℕ → ℕ → ℕ
product_32 a b = extended 32 (product a b)

-- ---- quotients, which round towards zero, and remainders, with the sign of the dividend; by zero
-- the quotient is all ones and the remainder the dividend
abbrev pub quotient : ℕ → ℕ → ℕ
quotient a b = if b == 0 then 2 ^ 64 - 1 else a / b

abbrev pub remainder : ℕ → ℕ → ℕ
remainder a b = if b == 0 then a else a % b

abbrev pub quotient_signed : ℕ → ℕ → ℕ
quotient_signed a b = if b == 0 then 2 ^ 64 - 1 else word_of (int_div (signed a) (signed b))

abbrev pub remainder_signed : ℕ → ℕ → ℕ
remainder_signed a b = if b == 0 then a else word_of (int_rem (signed a) (signed b))

abbrev pub quotient_32 : ℕ → ℕ → ℕ
quotient_32 a b = if b % 2 ^ 32 == 0 then 2 ^ 64 - 1 else extended 32 (a % 2 ^ 32 / (b % 2 ^ 32))

abbrev pub remainder_32 : ℕ → ℕ → ℕ
remainder_32 a b = if b % 2 ^ 32 == 0 then extended 32 a else extended 32 (a % 2 ^ 32 % (b % 2 ^ 32))

abbrev pub quotient_signed_32 : ℕ → ℕ → ℕ
quotient_signed_32 a b =
    if b % 2 ^ 32 == 0 then 2 ^ 64 - 1 else extended 32 (word_of (int_div (signed_of 32 a) (signed_of 32 b)))

abbrev pub remainder_signed_32 : ℕ → ℕ → ℕ
remainder_signed_32 a b =
    if b % 2 ^ 32 == 0 then extended 32 a else word_of (int_rem (signed_of 32 a) (signed_of 32 b))
