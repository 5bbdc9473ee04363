-- Parts of a word, bit 0 the lowest (RISC-V unprivileged manual, "Base Instruction Formats").
use Rattle.std.specs.Prelude.{ℕ, ◌+◌, ◌-◌, ◌*◌, ◌/◌, ◌%◌, ◌^◌, ℤ, pos, negsuc, Bool, nat_lt, if◌then◌else◌}

-- the `count` bits of a word from bit `low` up, as a number
unfoldable pub bits_at : ℕ → ℕ → ℕ → ℕ
bits_at low count word = word / 2 ^ low % 2 ^ count

-- the word with these bits replaced by `part`, which has at most `count` bits
unfoldable pub with_bits : ℕ → ℕ → ℕ → ℕ → ℕ
with_bits low count word part = word / 2 ^ (low + count) * 2 ^ (low + count) + part * 2 ^ low + word % 2 ^ low

-- the low n bits of p, read as two's complement
abbrev pub signed_of : ℕ → ℕ → ℤ
signed_of n p = if nat_lt (p % 2 ^ n) (2 ^ (n - 1)) then pos (p % 2 ^ n) else negsuc (2 ^ n - 1 - p % 2 ^ n)

-- the low n bits of an integer, as two's complement has them
abbrev pub low_of : ℕ → ℤ → ℕ
low_of n (pos k) = k % 2 ^ n
low_of n (negsuc k) = 2 ^ n - 1 - k % 2 ^ n

-- whether n bits hold an integer as two's complement: from -2 ^ (n - 1) up to 2 ^ (n - 1) - 1
abbrev pub fits_bits : ℕ → ℤ → Bool
fits_bits n (pos k) = nat_lt k (2 ^ (n - 1))
fits_bits n (negsuc k) = nat_lt k (2 ^ (n - 1))
