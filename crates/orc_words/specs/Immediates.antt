-- The immediates of the five formats (RISC-V unprivileged manual, "Immediate Encoding Variants"):
-- the bits of each as a sum of the word's parts, their signed value, and the word with them replaced.
use Rattle.std.specs.Prelude.{ℕ, ◌+◌, ◌*◌, ◌^◌, ◌<◌, ◌≤◌, ◌⊎◌, ℤ}
use Rattle.orc_words.specs.Bits.{bits_at, with_bits, signed_of}

-- I: bits 31..20
unfoldable pub i_bits : ℕ → ℕ
i_bits word = bits_at 20 12 word

-- S: bits 31..25, then 11..7
unfoldable pub s_bits : ℕ → ℕ
s_bits word = bits_at 25 7 word * 2 ^ 5 + bits_at 7 5 word

-- B: bits 31, 7, 30..25, 11..8, then a zero bit
unfoldable pub b_bits : ℕ → ℕ
b_bits word = bits_at 31 1 word * 2 ^ 12 + bits_at 7 1 word * 2 ^ 11 + bits_at 25 6 word * 2 ^ 5 + bits_at 8 4 word * 2

-- U: bits 31..12, the upper part of the value
unfoldable pub u_bits : ℕ → ℕ
u_bits word = bits_at 12 20 word

-- J: bits 31, 19..12, 20, 30..21, then a zero bit
unfoldable pub j_bits : ℕ → ℕ
j_bits word = bits_at 31 1 word * 2 ^ 20 + bits_at 12 8 word * 2 ^ 12 + bits_at 20 1 word * 2 ^ 11 + bits_at 21 10 word * 2

-- the signed values
unfoldable pub i_immediate : ℕ → ℤ
i_immediate word = signed_of 12 (i_bits word)

unfoldable pub s_immediate : ℕ → ℤ
s_immediate word = signed_of 12 (s_bits word)

unfoldable pub b_immediate : ℕ → ℤ
b_immediate word = signed_of 13 (b_bits word)

-- the upper part with twelve zero bits below it
unfoldable pub u_immediate : ℕ → ℤ
u_immediate word = signed_of 32 (u_bits word * 2 ^ 12)

unfoldable pub j_immediate : ℕ → ℤ
j_immediate word = signed_of 21 (j_bits word)

-- the word with the immediate of its format replaced by the low bits of a part; of U, by the low 20
-- bits of an upper part; of B and J the part's lowest bit has no place
unfoldable pub with_i : ℕ → ℕ → ℕ
with_i word part = with_bits 20 12 word (bits_at 0 12 part)

unfoldable pub with_s : ℕ → ℕ → ℕ
with_s word part = with_bits 25 7 (with_bits 7 5 word (bits_at 0 5 part)) (bits_at 5 7 part)

unfoldable pub with_b : ℕ → ℕ → ℕ
with_b word part =
    with_bits 31 1
    (with_bits 25 6 (with_bits 8 4 (with_bits 7 1 word (bits_at 11 1 part)) (bits_at 1 4 part)) (bits_at 5 6 part))
    (bits_at 12 1 part)

unfoldable pub with_u : ℕ → ℕ → ℕ
with_u word part = with_bits 12 20 word (bits_at 0 20 part)

unfoldable pub with_j : ℕ → ℕ → ℕ
with_j word part =
    with_bits 31 1
    (with_bits 21 10 (with_bits 20 1 (with_bits 12 8 word (bits_at 12 8 part)) (bits_at 11 1 part)) (bits_at 1 10 part))
    (bits_at 20 1 part)

-- the bits of a word that are no part of the format's immediate
abbrev pub OutsideI : ℕ → Type 0
OutsideI i = (i < 20) ⊎ (32 ≤ i)

abbrev pub OutsideS : ℕ → Type 0
OutsideS i = (i < 7) ⊎ ((12 ≤ i) × (i < 25)) ⊎ (32 ≤ i)

abbrev pub OutsideB : ℕ → Type 0
OutsideB i = (i < 7) ⊎ ((12 ≤ i) × (i < 25)) ⊎ (32 ≤ i)

abbrev pub OutsideU : ℕ → Type 0
OutsideU i = (i < 12) ⊎ (32 ≤ i)

abbrev pub OutsideJ : ℕ → Type 0
OutsideJ i = (i < 12) ⊎ (32 ≤ i)
