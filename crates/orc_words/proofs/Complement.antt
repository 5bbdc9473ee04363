-- Two's complement as the code computes it.
use Rattle.std.proofs.Common.{◌≡◌, ℕ, ◌+◌, ◌-◌, ◌*◌, ◌/◌, ◌%◌, ◌^◌, ◌<◌, ◌≤◌, ℤ, pos, negsuc, ◌-ℤ◌, to_z, of_z, w64, nat_lt, if◌then◌else◌, true, false, suc, inl, inr, refl, sym, ap, ◌∙◌, arith}
use Rattle.std.proofs.Math.Nat.{mod-lt, mod-eq_of_lt}
use Rattle.std.proofs.lemmas.Nat.{pow_pos, pow-add}
use Rattle.std.proofs.lemmas.Int.{ints}
use Rattle.std.proofs.lemmas.Bool.{lt-ltb, ltb-true, lt-leb}
use Rattle.std.proofs.lemmas.Bool.Decides.{nat_tests, leb_tells}
use Rattle.std.proofs.Math.Pow.{pow_mono}
use Rattle.orc_words.specs.Bits.{signed_of, low_of, fits_bits}

-- a power of two is twice the one below
pub halved : (n : ℕ) → 1 ≤ n → 2 ^ n ≡ 2 ^ (n - 1) * 2
halved n h = let e : n ≡ n - 1 + 1 = omega arith in ap (λ (x : ℕ). 2 ^ x) e ∙ pow-add 2 (n - 1) 1

low_is : (x half : ℕ) → x < half → half ≤ 2 ^ 63 → (m : ℕ) → to_z w64 x ≡ (if nat_lt x half then pos x else negsuc (m - 1 - x))
low_is x half h top m = grind (arith, ints, nat_tests)

high_is : (x half m : ℕ) → half ≤ x → m ≡ half * 2 → x < m → half ≤ 2 ^ 63 → to_z w64 (of_z w64 (negsuc 0 -ℤ to_z w64 (m - 1 - x))) ≡ (if nat_lt x half then pos x else negsuc (m - 1 - x))
high_is x half m h e below top = grind (arith, ints, nat_tests)

-- below the half a number stands for itself
pub signed_of-low : (n p m : ℕ) → 1 ≤ n → n ≤ 64 → m ≡ 2 ^ n → p % m < m / 2 → to_z w64 (p % m) ≡ signed_of n p
signed_of-low n p m low high e h =
    let half = halved n low in
    let top : 2 ^ (n - 1) ≤ 2 ^ 63 = pow_mono {i = n - 1} {j = 63} (omega arith) in
    let below : p % 2 ^ n < 2 ^ n / 2 = rw e at h in
    rw e (low_is (p % 2 ^ n) (2 ^ (n - 1)) (omega (arith, below, half)) top (2 ^ n))

-- from the half up it stands for itself less the power
pub signed_of-high : (n p m : ℕ) → 1 ≤ n → n ≤ 64 → m ≡ 2 ^ n → m / 2 ≤ p % m → to_z w64 (of_z w64 (negsuc 0 -ℤ to_z w64 (m - 1 - p % m))) ≡ signed_of n p
signed_of-high n p m low high e h =
    let half = halved n low in
    let top : 2 ^ (n - 1) ≤ 2 ^ 63 = pow_mono {i = n - 1} {j = 63} (omega arith) in
    let above : 2 ^ n / 2 ≤ p % 2 ^ n = rw e at h in
    let below : p % 2 ^ n < 2 ^ n = mod-lt p (pow_pos n) in
    rw e (high_is (p % 2 ^ n) (2 ^ (n - 1)) (2 ^ n) (omega (arith, above, half)) half below top)

-- ---- an integer and its low bits
low_of-cases : (n x half m : ℕ) → m ≡ 2 ^ n → x < m → low_of n (if nat_lt x half then pos x else negsuc (m - 1 - x)) ≡ x
low_of-cases n x half m e h =
    elim (leb_tells (suc x) half) [
      | inl (t, _) ↦ rw t (ap (λ (y : ℕ). x % y) (sym e) ∙ mod-eq_of_lt h)
      | inr (f, _) ↦
          let rest : (m - 1 - x) % 2 ^ n ≡ m - 1 - x = ap (λ (y : ℕ). (m - 1 - x) % y) (sym e) ∙ mod-eq_of_lt (omega arith) in
          rw f (omega (arith, rest, e))
    ]

-- the low bits of the signed value of a number are its low bits
pub low_of-signed_of : (n p : ℕ) → low_of n (signed_of n p) ≡ p % 2 ^ n
low_of-signed_of n p = low_of-cases n (p % 2 ^ n) (2 ^ (n - 1)) (2 ^ n) refl (mod-lt p (pow_pos n))

fits_cases : (n x half m : ℕ) → half ≡ 2 ^ (n - 1) → m ≡ half * 2 → x < m → fits_bits n (if nat_lt x half then pos x else negsuc (m - 1 - x)) ≡ true
fits_cases n x half m e e' h =
    elim (leb_tells (suc x) half) [
      | inl (t, below) ↦ rw t (lt-ltb x (2 ^ (n - 1)) (omega (arith, below, e)))
      | inr (f, above) ↦ rw f (lt-ltb (m - 1 - x) (2 ^ (n - 1)) (omega (arith, above, e, e')))
    ]

-- n bits hold the signed value of any number
pub fits_bits-signed_of : (n p : ℕ) → 1 ≤ n → fits_bits n (signed_of n p) ≡ true
fits_bits-signed_of n p h = fits_cases n (p % 2 ^ n) (2 ^ (n - 1)) (2 ^ n) refl (halved n h) (mod-lt p (pow_pos n))

-- an integer that n bits hold is the signed value of its low bits
pub signed_of-low_of : (n : ℕ) (v : ℤ) → 1 ≤ n → fits_bits n v ≡ true → signed_of n (low_of n v) ≡ v
signed_of-low_of n (pos k) h fits =
    let half = halved n h in
    let below : k < 2 ^ (n - 1) = ltb-true k (2 ^ (n - 1)) fits in
    let whole : k % 2 ^ n % 2 ^ n ≡ k = ap (λ (x : ℕ). x % 2 ^ n) (mod-eq_of_lt (omega (arith, half, below))) ∙ mod-eq_of_lt (omega (arith, half, below)) in
    rw (whole, fits) refl
signed_of-low_of n (negsuc k) h fits =
    let half = halved n h in
    let below : k < 2 ^ (n - 1) = ltb-true k (2 ^ (n - 1)) fits in
    let low : 2 ^ n - 1 - k % 2 ^ n ≡ 2 ^ n - 1 - k = ap (λ (x : ℕ). 2 ^ n - 1 - x) (mod-eq_of_lt (omega (arith, half, below))) in
    let whole : (2 ^ n - 1 - k) % 2 ^ n ≡ 2 ^ n - 1 - k = mod-eq_of_lt (omega (arith, half, below)) in
    let test : nat_lt (2 ^ n - 1 - k) (2 ^ (n - 1)) ≡ false = lt-leb (suc (2 ^ n - 1 - k)) (2 ^ (n - 1)) (omega (arith, half, below)) in
    rw (low, whole, test) (ap negsuc (omega (arith, half, below)))
