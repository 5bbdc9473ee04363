-- Little-endian numbers in bytes (System V gABI, "Data Representation": ELFDATA2LSB). Bytes are a
-- function from place to byte.
use Rattle.std.specs.Prelude.{ℕ, zero, suc, ◌+◌, ◌-◌, ◌*◌, ◌^◌, nat_lt, nat_le, ◌&&◌, if◌then◌else◌}
use Rattle.orc_words.specs.Bits.{bits_at}

-- the number in `width` bytes from place `at`, the lowest byte first
unfoldable pub number_at : ℕ → (ℕ → ℕ) → ℕ → ℕ
number_at zero bytes at = 0
number_at (suc w) bytes at = number_at w bytes at + bytes (at + w) * 2 ^ (8 * w)

-- byte k of a number, byte 0 the lowest
unfoldable pub byte_of : ℕ → ℕ → ℕ
byte_of n k = bits_at (8 * k) 8 n

-- the bytes with the low `width` bytes of n written from place `at`
unfoldable pub with_number : ℕ → ℕ → ℕ → (ℕ → ℕ) → ℕ → ℕ
with_number width at n bytes place =
    if nat_le at place && nat_lt place (at + width) then byte_of n (place - at) else bytes place
