-- The low bits of sums and differences of integers.
use Rattle.std.proofs.Common.{◌≡◌, ℕ, suc, ◌+◌, ◌-◌, ◌*◌, ◌/◌, ◌%◌, ◌^◌, ◌<◌, ◌≤◌, ℤ, pos, negsuc, ◌+ℤ◌, ◌-ℤ◌, to_z, of_z, w64, SFits, refl, sym, ap, ◌∙◌, arith}
use Rattle.std.proofs.Math.Nat.{mod-lt, add-mul, add-mod-mod, mod-add-mod, mod-eq_of_lt}
use Rattle.std.proofs.lemmas.Nat.{pow_pos, pow-add, div-add-mod'}
use Rattle.std.proofs.lemmas.Int.{ints, int_rem_euclid_is, to_z-of_z, of_z-to_z}
use Rattle.orc_words.specs.Bits.{signed_of, low_of}
use Rattle.link_model.specs.Kinds.{wrapped}

-- an integer and a multiple of the power that make a natural number
pub low_of-is : (n k m : ℕ) (z : ℤ) → z +ℤ pos (k * 2 ^ n) ≡ pos m → low_of n z ≡ m % 2 ^ n
low_of-is n k m (pos a) e = let same = int_rem_euclid_is (pos a) (pos (2 ^ n)) (2 ^ n) k m (pow_pos n) refl e in cc
low_of-is n k m (negsuc a) e = let same = int_rem_euclid_is (negsuc a) (pos (2 ^ n)) (2 ^ n) k m (pow_pos n) refl e in cc

-- the bits of a signed 64-bit number
pub low_of-bits : (n : ℕ) (v : ℤ) → n ≤ 64 → SFits w64 v → low_of n v ≡ of_z w64 v % 2 ^ n
low_of-bits n (pos k) h fits = refl
low_of-bits n (negsuc k) h fits =
    let power : 2 ^ (64 - n) * 2 ^ n ≡ 2 ^ 64 =
    (let whole : 64 - n + n ≡ 64 = omega arith in sym (pow-add 2 (64 - n) n) ∙ ap (λ (x : ℕ). 2 ^ x) whole) in
    low_of-is n (2 ^ (64 - n)) (2 ^ 64 - suc k) (negsuc k) (omega (arith, ints, power))

-- a multiple more
multiple : (j m : ℕ) → (j / m + 1) * m + j % m ≡ j + m
multiple j m =
    let spread = add-mul (j / m) 1 m in
    let whole = div-add-mod' j m in
    omega (arith, spread, whole)

pub low_of-add : (n a : ℕ) (v : ℤ) → low_of n (pos a +ℤ v) ≡ (a + low_of n v) % 2 ^ n
low_of-add n a (pos j) = sym (add-mod-mod a j (2 ^ n))
low_of-add n a (negsuc j) =
    let e = multiple j (2 ^ n) in
    let below = mod-lt j (pow_pos n) in
    low_of-is n (j / 2 ^ n + 1) (a + (2 ^ n - 1 - j % 2 ^ n)) (pos a +ℤ negsuc j) (omega (arith, ints, e, below))

pub low_of-sub : (n a : ℕ) (v : ℤ) → low_of n (pos a -ℤ v) ≡ (a + (2 ^ n - low_of n v)) % 2 ^ n
low_of-sub n a (pos j) =
    let e = multiple j (2 ^ n) in
    let below = mod-lt j (pow_pos n) in
    low_of-is n (j / 2 ^ n + 1) (a + (2 ^ n - j % 2 ^ n)) (pos a -ℤ pos j) (omega (arith, ints, e, below))
low_of-sub n a (negsuc j) =
    let below = mod-lt j (pow_pos n) in
    let rest : a + (2 ^ n - (2 ^ n - 1 - j % 2 ^ n)) ≡ suc a + j % 2 ^ n = omega (arith, below) in
    let sum : a + suc j ≡ suc a + j = omega arith in
    rw (rest, sum) (sym (add-mod-mod (suc a) j (2 ^ n)))

-- the low bits are below the power
pub low_of-lt : (n : ℕ) (v : ℤ) → low_of n v < 2 ^ n
low_of-lt n (pos k) = mod-lt k (pow_pos n)
low_of-lt n (negsuc k) = let some = pow_pos n in omega (arith, some)

-- the rounded value's bits
pub low_of-rounded : (v : ℤ) → SFits w64 v → low_of 32 (v +ℤ pos 0x800) ≡ (of_z w64 v + 0x800) % 2 ^ 32
low_of-rounded (pos k) fits = refl
low_of-rounded (negsuc k) fits = low_of-is 32 (2 ^ 32) (2 ^ 64 - suc k + 0x800) (negsuc k +ℤ pos 0x800) (omega (arith, ints))

-- ---- the value as the code computes it
-- the bits of a 64-bit number as a signed number
pub signed_of-cast : (n : ℕ) → n < 2 ^ 64 → to_z w64 n ≡ signed_of 64 n
signed_of-cast n h =
    let whole : n % 2 ^ 64 ≡ n = mod-eq_of_lt h in
    let rest : 18446744073709551616 - suc n ≡ 18446744073709551615 - n = omega arith in
    rw (whole, ← rest) refl

-- what `cast_unsigned` ensures, of a number that fits
pub cast_bits : (v : ℤ) (bits : ℕ) → SFits w64 v → bits ≡ of_z w64 (to_z w64 (of_z w64 v)) → bits ≡ of_z w64 v
cast_bits v bits fits e = e ∙ ap (of_z w64) (to_z-of_z w64 v fits)

-- a number that is taken away
low_of-less : (n p : ℕ) (z : ℤ) → p < 2 ^ n → low_of n (z -ℤ pos p) ≡ (low_of n z + (2 ^ n - p)) % 2 ^ n
low_of-less n p (pos s) h =
    low_of-sub n s (pos p) ∙ ap (λ (x : ℕ). (s + (2 ^ n - x)) % 2 ^ n) (mod-eq_of_lt h)
    ∙ sym (mod-add-mod s (2 ^ n) (2 ^ n - p))
low_of-less n p (negsuc j) h =
    let e = multiple j (2 ^ n) in
    let below = mod-lt j (pow_pos n) in
    let twice = add-mul (j / 2 ^ n + 1) 1 (2 ^ n) in
    low_of-is n (j / 2 ^ n + 1 + 1) (2 ^ n - 1 - j % 2 ^ n + (2 ^ n - p)) (negsuc j -ℤ pos p) (omega (arith, ints, e, below, twice))

-- the bits of a sum, and of a sum less a place
pub sum_bits : (s bits : ℕ) (a : ℤ) → SFits w64 a → bits ≡ of_z w64 a → (s + bits) % 2 ^ 64 ≡ low_of 64 (pos s +ℤ a)
sum_bits s bits a fits e =
    ap (λ (x : ℕ). (s + x) % 2 ^ 64) e
    ∙ sym (add-mod-mod s (of_z w64 a) (2 ^ 64))
    ∙ ap (λ (x : ℕ). (s + x) % 2 ^ 64) (sym (low_of-bits 64 a (omega arith) fits))
    ∙ sym (low_of-add 64 s a)

pub less_bits : (n p : ℕ) (z : ℤ) → p < 2 ^ 64 → n ≡ low_of 64 z → (n + (2 ^ 64 - p)) % 2 ^ 64 ≡ low_of 64 (z -ℤ pos p)
less_bits n p z h e = ap (λ (x : ℕ). (x + (2 ^ 64 - p)) % 2 ^ 64) e ∙ sym (low_of-less 64 p z h)

-- what `cast_signed` ensures of the bits of an integer
pub wrapped-cast : (r : ℤ) (n : ℕ) (z : ℤ) → n < 2 ^ 64 → r ≡ to_z w64 n → n ≡ low_of 64 z → to_z w64 (of_z w64 r) ≡ wrapped z
unfolding wrapped
wrapped-cast r n z h e same =
    ap (λ (x : ℤ). to_z w64 (of_z w64 x)) e
    ∙ ap (to_z w64) (of_z-to_z w64 n h)
    ∙ signed_of-cast n h
    ∙ ap (signed_of 64) same
