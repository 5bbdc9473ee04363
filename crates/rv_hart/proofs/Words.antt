-- Integers and their words.
use Rattle.std.proofs.Common.{◌≡◌, ℕ, zero, suc, ◌-◌, ◌*◌, ◌/◌, ◌^◌, ◌<◌, ◌≤◌, ℤ, pos, negsuc, ◌*ℤ◌, to_z, of_z, w64, sym, ap, ◌∙◌, arith, rules, lit<}
use Rattle.std.specs.Int.{w128, IsNonZero, int_wrapping_div, int_shr}
use Rattle.std.specs.Int.Signed.{mag}
use Rattle.std.specs.Int.RustNames.{int_div, FitsSigned, unsigned_abs}
use Rattle.std.proofs.Math.IntN.{neg_ℤ}
use Rattle.std.proofs.Math.Nat.{mod-eq_of_lt, div-le_self}
use Rattle.std.proofs.Math.Facts.{sfits_to_z}
use Rattle.std.proofs.lemmas.Int.{to_z-of_z, of_z-to_z, fits_signed_mul}
use Rattle.orc_words.specs.Bits.{low_of}
use Rattle.orc_words.proofs.Complement.{low_of-signed_of}
use Rattle.rv_hart.specs.Arithmetic.{word_of, signed}

fits-64 : (z : ℤ) → mag z < 2 ^ 63 → FitsSigned w64 z
fits-64 z h = record { sfits = h }

fits-128 : (z : ℤ) → mag z < 2 ^ 127 → FitsSigned w128 z
fits-128 z h = record { sfits = h }

-- the bits of an integer are its word
bits-word : (z : ℤ) → mag z < 2 ^ 64 → of_z w64 z ≡ low_of 64 z
bits-word (pos n) h = omega arith
bits-word (negsuc n) h = omega arith

bits-lt : (z : ℤ) → mag z < 2 ^ 64 → of_z w64 z < 2 ^ 64
bits-lt (pos n) h = h
bits-lt (negsuc n) h = omega arith

-- a word that is not 0 stands for an integer that is not 0
pub nonzero : (b : ℕ) (z : ℤ) → z ≡ signed b → b < 2 ^ 64 → (b ≡ 0 → ⊥) → mag z < 2 ^ 63 → IsNonZero w64 (to_z w64 (of_z w64 z))
unfolding signed
nonzero b z e h n m =
    let bits : of_z w64 z ≡ b = bits-word z (omega arith) ∙ ap (low_of 64) e ∙ low_of-signed_of 64 b ∙ mod-eq_of_lt h in
    rw (to_z-of_z w64 z (fits-64 z m)) (omega (arith, bits, n))

-- ---- a quotient
mag-neg : (r : ℕ) → mag (neg_ℤ (pos r)) ≤ r
mag-neg zero = omega arith
mag-neg (suc r) = omega arith

mag-quotient : (x y : ℤ) → mag x < 2 ^ 63 → mag (int_div x y) < 2 ^ 64
mag-quotient (pos a) (pos b) h = omega (arith, div-le_self a b)
mag-quotient (pos a) (negsuc b) h = omega (arith, div-le_self a (suc b), mag-neg (a / suc b))
mag-quotient (negsuc a) (pos b) h = omega (arith, div-le_self (suc a) b, mag-neg (suc a / b))
mag-quotient (negsuc a) (negsuc b) h = omega (arith, div-le_self (suc a) (suc b))

-- the word of a number's integer is the number
word-back : (n : ℕ) → n < 2 ^ 64 → low_of 64 (to_z w64 n) ≡ n
word-back n h =
    let fits : FitsSigned w64 (to_z w64 n) = sfits_to_z (search (rules, h)) in
    sym (bits-word (to_z w64 n) (omega (arith, fits.sfits))) ∙ of_z-to_z w64 n h

pub quotient_word : (x y q : ℤ) → mag x < 2 ^ 63 → mag y < 2 ^ 63 → mag q < 2 ^ 63 → q ≡ int_wrapping_div w64 (to_z w64 (of_z w64 x)) (to_z w64 (of_z w64 y)) → word_of (to_z w64 (of_z w64 q)) ≡ word_of (int_div x y)
unfolding word_of
quotient_word x y q hx hy hq e =
    let ex = to_z-of_z w64 x (fits-64 x hx) in
    let ey = to_z-of_z w64 y (fits-64 y hy) in
    let plain : q ≡ int_wrapping_div w64 x y = e ∙ ap (λ z. int_wrapping_div w64 z (to_z w64 (of_z w64 y))) ex ∙ ap (λ z. int_wrapping_div w64 x z) ey in
    let big = mag-quotient x y hx in
    ap (low_of 64) (to_z-of_z w64 q (fits-64 q hq) ∙ plain)
    ∙ word-back (of_z w64 (int_div x y)) (bits-lt (int_div x y) big)
    ∙ bits-word (int_div x y) big

-- ---- the upper half of a product
abs-le : (z : ℤ) → mag z < 2 ^ 63 → unsigned_abs z ≤ 2 ^ 63
abs-le (pos n) h = omega arith
abs-le (negsuc n) h = omega arith

mag-upper : (z : ℤ) → mag z < 2 ^ 127 → mag (int_shr z 64) < 2 ^ 63
mag-upper (pos n) h = omega arith
mag-upper (negsuc n) h = omega arith

pub upper_word : (x y : ℤ) → mag x < 2 ^ 63 → mag y < 2 ^ 63 → to_z w64 (of_z w64 (to_z w128 (of_z w128 (int_shr (to_z w128 (of_z w128 (to_z w128 (of_z w128 (to_z w64 (of_z w64 x))) *ℤ to_z w128 (of_z w128 (to_z w64 (of_z w64 y)))))) 64)))) ≡ int_shr (x *ℤ y) 64
upper_word x y hx hy =
    let fits : FitsSigned w128 (x *ℤ y) = fits_signed_mul w128 x y (2 ^ 63) (2 ^ 63) (abs-le x hx) (abs-le y hy) (lit< tt) in
    let up = mag-upper (x *ℤ y) fits.sfits in
    let ex = to_z-of_z w64 x (fits-64 x hx) in
    let ey = to_z-of_z w64 y (fits-64 y hy) in
    let wx = to_z-of_z w128 x (fits-128 x (omega arith)) in
    let wy = to_z-of_z w128 y (fits-128 y (omega arith)) in
    let wp = to_z-of_z w128 (x *ℤ y) fits in
    let wu = to_z-of_z w128 (int_shr (x *ℤ y) 64) (fits-128 (int_shr (x *ℤ y) 64) (omega arith)) in
    let eu = to_z-of_z w64 (int_shr (x *ℤ y) 64) (fits-64 (int_shr (x *ℤ y) 64) up) in
    ap (λ z. to_z w64 (of_z w64 (to_z w128 (of_z w128 (int_shr (to_z w128 (of_z w128 (to_z w128 (of_z w128 z) *ℤ to_z w128 (of_z w128 (to_z w64 (of_z w64 y)))))) 64))))) ex
    ∙ ap (λ z. to_z w64 (of_z w64 (to_z w128 (of_z w128 (int_shr (to_z w128 (of_z w128 (to_z w128 (of_z w128 x) *ℤ to_z w128 (of_z w128 z)))) 64))))) ey
    ∙ ap (λ z. to_z w64 (of_z w64 (to_z w128 (of_z w128 (int_shr (to_z w128 (of_z w128 (z *ℤ to_z w128 (of_z w128 y)))) 64))))) wx
    ∙ ap (λ z. to_z w64 (of_z w64 (to_z w128 (of_z w128 (int_shr (to_z w128 (of_z w128 (x *ℤ z))) 64))))) wy
    ∙ ap (λ z. to_z w64 (of_z w64 (to_z w128 (of_z w128 (int_shr z 64))))) wp
    ∙ ap (λ z. to_z w64 (of_z w64 z)) wu
    ∙ eu
