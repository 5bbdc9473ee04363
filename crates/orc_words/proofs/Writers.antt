-- The laws of the formats: the immediate that was written is read back, and the other bits stay.
use Rattle.std.proofs.Common.{◌≡◌, ℕ, ◌+◌, ◌*◌, ◌/◌, ◌%◌, ◌^◌, ◌<◌, ◌≤◌, ◌⊎◌, inl, inr, refl, ◌∙◌, arith}
use Rattle.std.specs.Int.{bit_at}
use Rattle.orc_words.specs.Bits.{bits_at, with_bits, signed_of}
use Rattle.orc_words.specs.Immediates.{i_bits, s_bits, b_bits, u_bits, j_bits, i_immediate, s_immediate, b_immediate, u_immediate, j_immediate, with_i, with_s, with_b, with_u, with_j, OutsideI, OutsideS, OutsideB, OutsideU, OutsideJ}
use Rattle.orc_words.proofs.Fields.{bits_at-lt, bits_at-lowest, bits_at-split, bits_at-with_same, bits_at-with_above, bits_at-with_below, bit_at-with_other}

-- ---- the bits that were written
pub i_bits-with_i : (word part : ℕ) → i_bits (with_i word part) ≡ bits_at 0 12 part
unfolding i_bits with_i
i_bits-with_i word part = bits_at-with_same 20 12 word (bits_at 0 12 part) (bits_at-lt 0 12 part)

pub s_bits-with_s : (word part : ℕ) → s_bits (with_s word part) ≡ bits_at 0 12 part
unfolding s_bits with_s
s_bits-with_s word part =
    let low : ℕ = with_bits 7 5 word (bits_at 0 5 part) in
    let e1 = bits_at-with_same 25 7 low (bits_at 5 7 part) (bits_at-lt 5 7 part) in
    let e2 = bits_at-with_below 7 5 25 7 low (bits_at 5 7 part) (omega arith) in
    let e3 = bits_at-with_same 7 5 word (bits_at 0 5 part) (bits_at-lt 0 5 part) in
    let whole = bits_at-split 0 5 7 part in
    omega (arith, e1, e2, e3, whole)

pub u_bits-with_u : (word part : ℕ) → u_bits (with_u word part) ≡ bits_at 0 20 part
unfolding u_bits with_u
u_bits-with_u word part = bits_at-with_same 12 20 word (bits_at 0 20 part) (bits_at-lt 0 20 part)

pub b_bits-with_b : (word part : ℕ) → b_bits (with_b word part) ≡ bits_at 1 12 part * 2
unfolding b_bits with_b
b_bits-with_b word part =
    let w1 : ℕ = with_bits 7 1 word (bits_at 11 1 part) in
    let w2 : ℕ = with_bits 8 4 w1 (bits_at 1 4 part) in
    let w3 : ℕ = with_bits 25 6 w2 (bits_at 5 6 part) in
    let a = bits_at-with_same 31 1 w3 (bits_at 12 1 part) (bits_at-lt 12 1 part) in
    let b1 = bits_at-with_below 25 6 31 1 w3 (bits_at 12 1 part) (omega arith) in
    let b = bits_at-with_same 25 6 w2 (bits_at 5 6 part) (bits_at-lt 5 6 part) in
    let c1 = bits_at-with_below 8 4 31 1 w3 (bits_at 12 1 part) (omega arith) in
    let c2 = bits_at-with_below 8 4 25 6 w2 (bits_at 5 6 part) (omega arith) in
    let c = bits_at-with_same 8 4 w1 (bits_at 1 4 part) (bits_at-lt 1 4 part) in
    let d1 = bits_at-with_below 7 1 31 1 w3 (bits_at 12 1 part) (omega arith) in
    let d2 = bits_at-with_below 7 1 25 6 w2 (bits_at 5 6 part) (omega arith) in
    let d3 = bits_at-with_below 7 1 8 4 w1 (bits_at 1 4 part) (omega arith) in
    let d = bits_at-with_same 7 1 word (bits_at 11 1 part) (bits_at-lt 11 1 part) in
    let s1 = bits_at-split 1 11 1 part in
    let s2 = bits_at-split 1 10 1 part in
    let s3 = bits_at-split 1 4 6 part in
    omega (arith, a, b1, b, c1, c2, c, d1, d2, d3, d, s1, s2, s3)

pub j_bits-with_j : (word part : ℕ) → j_bits (with_j word part) ≡ bits_at 1 20 part * 2
unfolding j_bits with_j
j_bits-with_j word part =
    let w1 : ℕ = with_bits 12 8 word (bits_at 12 8 part) in
    let w2 : ℕ = with_bits 20 1 w1 (bits_at 11 1 part) in
    let w3 : ℕ = with_bits 21 10 w2 (bits_at 1 10 part) in
    let a = bits_at-with_same 31 1 w3 (bits_at 20 1 part) (bits_at-lt 20 1 part) in
    let b1 = bits_at-with_below 21 10 31 1 w3 (bits_at 20 1 part) (omega arith) in
    let b = bits_at-with_same 21 10 w2 (bits_at 1 10 part) (bits_at-lt 1 10 part) in
    let c1 = bits_at-with_below 20 1 31 1 w3 (bits_at 20 1 part) (omega arith) in
    let c2 = bits_at-with_below 20 1 21 10 w2 (bits_at 1 10 part) (omega arith) in
    let c = bits_at-with_same 20 1 w1 (bits_at 11 1 part) (bits_at-lt 11 1 part) in
    let d1 = bits_at-with_below 12 8 31 1 w3 (bits_at 20 1 part) (omega arith) in
    let d2 = bits_at-with_below 12 8 21 10 w2 (bits_at 1 10 part) (omega arith) in
    let d3 = bits_at-with_below 12 8 20 1 w1 (bits_at 11 1 part) (omega arith) in
    let d = bits_at-with_same 12 8 word (bits_at 12 8 part) (bits_at-lt 12 8 part) in
    let s1 = bits_at-split 1 19 1 part in
    let s2 = bits_at-split 1 11 8 part in
    let s3 = bits_at-split 1 10 1 part in
    omega (arith, a, b1, b, c1, c2, c, d1, d2, d3, d, s1, s2, s3)

-- ---- the immediates that are read back
-- two numbers with one remainder have one signed value
pub signed_of-same : (n a b : ℕ) → a % 2 ^ n ≡ b % 2 ^ n → signed_of n a ≡ signed_of n b
signed_of-same n a b e = rw e refl

pub i_immediate-with_i : (word part : ℕ) → i_immediate (with_i word part) ≡ signed_of 12 part
unfolding i_immediate
i_immediate-with_i word part =
    let e = i_bits-with_i word part ∙ bits_at-lowest 12 part in
    signed_of-same 12 (i_bits (with_i word part)) part (omega (arith, e))

pub s_immediate-with_s : (word part : ℕ) → s_immediate (with_s word part) ≡ signed_of 12 part
unfolding s_immediate
s_immediate-with_s word part =
    let e = s_bits-with_s word part ∙ bits_at-lowest 12 part in
    signed_of-same 12 (s_bits (with_s word part)) part (omega (arith, e))

pub u_immediate-with_u : (word part : ℕ) → u_immediate (with_u word part) ≡ signed_of 32 (part * 2 ^ 12)
unfolding u_immediate
u_immediate-with_u word part =
    let e = u_bits-with_u word part ∙ bits_at-lowest 20 part in
    signed_of-same 32 (u_bits (with_u word part) * 2 ^ 12) (part * 2 ^ 12) (omega (arith, e))

-- of an even part, since the lowest bit has no place
pub b_immediate-with_b : (word part : ℕ) → part % 2 ≡ 0 → b_immediate (with_b word part) ≡ signed_of 13 part
unfolding b_immediate bits_at
b_immediate-with_b word part even =
    let e : b_bits (with_b word part) ≡ part / 2 % 4096 * 2 = b_bits-with_b word part in
    signed_of-same 13 (b_bits (with_b word part)) part (omega (arith, e))

pub j_immediate-with_j : (word part : ℕ) → part % 2 ≡ 0 → j_immediate (with_j word part) ≡ signed_of 21 part
unfolding j_immediate bits_at
j_immediate-with_j word part even =
    let e : j_bits (with_j word part) ≡ part / 2 % 1048576 * 2 = j_bits-with_j word part in
    signed_of-same 21 (j_bits (with_j word part)) part (omega (arith, e))

-- ---- the bits that stay
pub with_i-others : (word part i : ℕ) → OutsideI i → bit_at (with_i word part) i ≡ bit_at word i
unfolding with_i
with_i-others word part i outside = bit_at-with_other 20 12 word (bits_at 0 12 part) i (bits_at-lt 0 12 part) outside

pub with_u-others : (word part i : ℕ) → OutsideU i → bit_at (with_u word part) i ≡ bit_at word i
unfolding with_u
with_u-others word part i outside = bit_at-with_other 12 20 word (bits_at 0 20 part) i (bits_at-lt 0 20 part) outside

pub with_s-others : (word part i : ℕ) → OutsideS i → bit_at (with_s word part) i ≡ bit_at word i
unfolding with_s
with_s-others word part i outside =
    bit_at-with_other 25 7 (with_bits 7 5 word (bits_at 0 5 part)) (bits_at 5 7 part) i (bits_at-lt 5 7 part) (grind arith)
    ∙ bit_at-with_other 7 5 word (bits_at 0 5 part) i (bits_at-lt 0 5 part) (grind arith)

pub with_b-others : (word part i : ℕ) → OutsideB i → bit_at (with_b word part) i ≡ bit_at word i
unfolding with_b
with_b-others word part i outside =
    let w1 : ℕ = with_bits 7 1 word (bits_at 11 1 part) in
    let w2 : ℕ = with_bits 8 4 w1 (bits_at 1 4 part) in
    let w3 : ℕ = with_bits 25 6 w2 (bits_at 5 6 part) in
    bit_at-with_other 31 1 w3 (bits_at 12 1 part) i (bits_at-lt 12 1 part) (grind arith)
    ∙ bit_at-with_other 25 6 w2 (bits_at 5 6 part) i (bits_at-lt 5 6 part) (grind arith)
    ∙ bit_at-with_other 8 4 w1 (bits_at 1 4 part) i (bits_at-lt 1 4 part) (grind arith)
    ∙ bit_at-with_other 7 1 word (bits_at 11 1 part) i (bits_at-lt 11 1 part) (grind arith)

pub with_j-others : (word part i : ℕ) → OutsideJ i → bit_at (with_j word part) i ≡ bit_at word i
unfolding with_j
with_j-others word part i outside =
    let w1 : ℕ = with_bits 12 8 word (bits_at 12 8 part) in
    let w2 : ℕ = with_bits 20 1 w1 (bits_at 11 1 part) in
    let w3 : ℕ = with_bits 21 10 w2 (bits_at 1 10 part) in
    bit_at-with_other 31 1 w3 (bits_at 20 1 part) i (bits_at-lt 20 1 part) (grind arith)
    ∙ bit_at-with_other 21 10 w2 (bits_at 1 10 part) i (bits_at-lt 1 10 part) (grind arith)
    ∙ bit_at-with_other 20 1 w1 (bits_at 11 1 part) i (bits_at-lt 11 1 part) (grind arith)
    ∙ bit_at-with_other 12 8 word (bits_at 12 8 part) i (bits_at-lt 12 8 part) (grind arith)

-- ---- the parts that stay
pub bits_at-with_i : (at n word part : ℕ) → at + n ≤ 20 → bits_at at n (with_i word part) ≡ bits_at at n word
unfolding with_i
bits_at-with_i at n word part below = bits_at-with_below at n 20 12 word (bits_at 0 12 part) below

pub bits_at-with_u : (at n word part : ℕ) → at + n ≤ 12 → bits_at at n (with_u word part) ≡ bits_at at n word
unfolding with_u
bits_at-with_u at n word part below = bits_at-with_below at n 12 20 word (bits_at 0 20 part) below

pub bits_at-with_j : (at n word part : ℕ) → at + n ≤ 12 → bits_at at n (with_j word part) ≡ bits_at at n word
unfolding with_j
bits_at-with_j at n word part below =
    let w1 : ℕ = with_bits 12 8 word (bits_at 12 8 part) in
    let w2 : ℕ = with_bits 20 1 w1 (bits_at 11 1 part) in
    let w3 : ℕ = with_bits 21 10 w2 (bits_at 1 10 part) in
    bits_at-with_below at n 31 1 w3 (bits_at 20 1 part) (omega arith)
    ∙ bits_at-with_below at n 21 10 w2 (bits_at 1 10 part) (omega arith)
    ∙ bits_at-with_below at n 20 1 w1 (bits_at 11 1 part) (omega arith)
    ∙ bits_at-with_below at n 12 8 word (bits_at 12 8 part) below

-- a part that lies wholly below or above the one that was written
with_rest : (at n low count word part : ℕ) → part < 2 ^ count → (at + n ≤ low) ⊎ (low + count ≤ at) → bits_at at n (with_bits low count word part) ≡ bits_at at n word
with_rest at n low count word part h (inl below) = bits_at-with_below at n low count word part below
with_rest at n low count word part h (inr above) = bits_at-with_above at n low count word part h above

-- of S and B the parts below bit 7, and those from bit 12 up to bit 25
pub bits_at-with_s : (at n word part : ℕ) → (at + n ≤ 7) ⊎ ((12 ≤ at) × (at + n ≤ 25)) → bits_at at n (with_s word part) ≡ bits_at at n word
unfolding with_s
bits_at-with_s at n word part place =
    bits_at-with_below at n 25 7 (with_bits 7 5 word (bits_at 0 5 part)) (bits_at 5 7 part) (grind arith)
    ∙ with_rest at n 7 5 word (bits_at 0 5 part) (bits_at-lt 0 5 part) (grind arith)

pub bits_at-with_b : (at n word part : ℕ) → (at + n ≤ 7) ⊎ ((12 ≤ at) × (at + n ≤ 25)) → bits_at at n (with_b word part) ≡ bits_at at n word
unfolding with_b
bits_at-with_b at n word part place =
    let w1 : ℕ = with_bits 7 1 word (bits_at 11 1 part) in
    let w2 : ℕ = with_bits 8 4 w1 (bits_at 1 4 part) in
    let w3 : ℕ = with_bits 25 6 w2 (bits_at 5 6 part) in
    bits_at-with_below at n 31 1 w3 (bits_at 12 1 part) (grind arith)
    ∙ bits_at-with_below at n 25 6 w2 (bits_at 5 6 part) (grind arith)
    ∙ with_rest at n 8 4 w1 (bits_at 1 4 part) (bits_at-lt 1 4 part) (grind arith)
    ∙ with_rest at n 7 1 word (bits_at 11 1 part) (bits_at-lt 11 1 part) (grind arith)
