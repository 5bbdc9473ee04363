-- Numbers in bytes: the crate's words and those of `byteorder`, and what a write leaves.
use Rattle.std.proofs.Common.{◌≡◌, ℕ, zero, suc, ◌+◌, ◌-◌, ◌*◌, ◌/◌, ◌%◌, ◌^◌, ◌<◌, ◌≤◌, ◌⊎◌, inl, inr, List, ◌++◌, length, take, drop, set, get_or, slice_index, refl, sym, ap, subst, ◌∙◌, arith, add_assoc, add_comm, add-zero, zero-add}
use Rattle.std.proofs.Math.Nat.{mul_assoc, mul_comm, mul-add, pow-suc, div-one}
use Rattle.std.proofs.lemmas.Nat.{pow-add, mul-add-lt}
use Rattle.std.proofs.lemmas.List.{get_or-drop, get_or-take, get_or_append_left, get_or-append_right, length-take-le, get_or-set_same}
use Rattle.std.proofs.lemmas.Bool.{cases_lt}
use Rattle.std.proofs.lemmas.Bool.Decides.{nat_tests}
use Rattle.std.proofs.Common.{length-set}
use Rattle.std.specs.Int.{byte_at, bytes_low_first}
use Rattle.byteorder.specs.Endian.{little_from}
use Rattle.byteorder.specs.Numbers.{length-bytes_low_first, little_from-take}
use borrow.Rule.Slice.PartMut.{mid_of, mid_len, put_mid, post_of}
use mathlib.Core.Path.{fun_ext}
use Rattle.orc_words.specs.Bits.{bits_at}
use Rattle.orc_words.specs.Numbers.{number_at, byte_of, with_number}
use Rattle.orc_words.proofs.Fields.{bits_at-lt, bits_at-lowest, bits_at-split, bits_at-low_of}

-- a power of 256 is one of two
pow_256 : (k : ℕ) → 256 ^ k ≡ 2 ^ (8 * k)
pow_256 zero = refl
pow_256 (suc k) =
    pow-suc 256 k ∙ ap (λ (x : ℕ). x * 256) (pow_256 k) ∙ sym (pow-add 2 (8 * k) 8) ∙ ap (λ (x : ℕ). 2 ^ x) (omega arith)

-- a number by its first byte
number_at-first : (w : ℕ) (bytes : ℕ → ℕ) (at : ℕ) → number_at (suc w) bytes at ≡ bytes at + 256 * number_at w bytes (suc at)
unfolding number_at
number_at-first zero bytes at = let e : at + 0 ≡ at = omega arith in rw e (omega arith)
number_at-first (suc w) bytes at =
    let ih = number_at-first w bytes at in
    let place : at + suc w ≡ suc at + w = omega arith in
    let power : 2 ^ (8 * suc w) ≡ 2 ^ (8 * w) * 256 = ap (λ (x : ℕ). 2 ^ x) (omega arith) ∙ pow-add 2 (8 * w) 8 in
    let turned : bytes (suc at + w) * (2 ^ (8 * w) * 256) ≡ 256 * (bytes (suc at + w) * 2 ^ (8 * w)) =
    sym (mul_assoc (bytes (suc at + w)) (2 ^ (8 * w)) 256) ∙ mul_comm (bytes (suc at + w) * 2 ^ (8 * w)) 256 in
    let spread = mul-add 256 (number_at w bytes (suc at)) (bytes (suc at + w) * 2 ^ (8 * w)) in
    rw (ih, place, power, turned, spread) (add_assoc (bytes at) (256 * number_at w bytes (suc at)) (256 * (bytes (suc at + w) * 2 ^ (8 * w))))

-- the number of `byteorder` after `at` bytes is the one at that place
pub number_at-drop : (w i at : ℕ) (xs : List ℕ) → little_from i w (drop at xs) ≡ number_at w (slice_index xs) (at + i)
unfolding number_at
number_at-drop zero i at xs = refl
number_at-drop (suc w) i at xs =
    let ih = number_at-drop w (suc i) at xs in
    let byte = get_or-drop at xs i 0 in
    let place : at + suc i ≡ suc (at + i) = omega arith in
    rw (number_at-first w (slice_index xs) (at + i), byte, ih, place) refl

byte_at-part : (i n : ℕ) → byte_at i n ≡ bits_at (8 * i) 8 n
unfolding bits_at
byte_at-part zero n = ap (λ (x : ℕ). x % 256) (sym (div-one n))
byte_at-part (suc i) n = ap (λ (x : ℕ). n / x % 256) (pow_256 (suc i))

-- byte j of a number's bytes from byte i up
get_or-bytes : (i k n j : ℕ) → j < k → get_or (bytes_low_first i k n) j 0 ≡ byte_of n (i + j)
unfolding byte_of
get_or-bytes i zero n j h = absurd (omega arith)
get_or-bytes i (suc k) n zero h = let e : i + 0 ≡ i = omega arith in rw e (byte_at-part i n)
get_or-bytes i (suc k) n (suc j) h =
    get_or-bytes (suc i) k n j (omega arith) ∙ ap (λ (x : ℕ). bits_at (8 * x) 8 n) (omega arith)

-- the bytes of a number's low part are those of the number
pub bytes-low : (w n low : ℕ) (rest : List ℕ) → low ≡ n % 2 ^ (8 * w) → (j : ℕ) → j < w → get_or (bytes_low_first 0 w low ++ rest) j 0 ≡ byte_of n j
unfolding byte_of
bytes-low w n low rest e j h =
    get_or_append_left (bytes_low_first 0 w low) rest 0 j (subst (λ (x : ℕ). j < x) (sym (length-bytes_low_first 0 w low)) h)
    ∙ get_or-bytes 0 w low j h
    ∙ ap (λ (x : ℕ). bits_at (8 * x) 8 low) (zero-add j)
    ∙ ap (λ (x : ℕ). bits_at (8 * j) 8 x) e
    ∙ bits_at-low_of (8 * j) 8 (8 * w) n (omega arith)

-- a write inside its range, and outside
pub with_number-inside : (w at n : ℕ) (bytes : ℕ → ℕ) (place : ℕ) → at ≤ place → place < at + w → with_number w at n bytes place ≡ byte_of n (place - at)
unfolding with_number
with_number-inside w at n bytes place low high = grind (arith, nat_tests)

pub with_number-outside : (w at n : ℕ) (bytes : ℕ → ℕ) (place : ℕ) → (place < at) ⊎ (at + w ≤ place) → with_number w at n bytes place ≡ bytes place
unfolding with_number
with_number-outside w at n bytes place outside = grind (arith, nat_tests)

-- a byte after a write of w bytes to a part of a slice
placed_at : (xs ys : List ℕ) (at k w n place : ℕ) → at + w ≤ length xs → k ≡ w → length ys ≡ w → ((j : ℕ) → j < w → get_or ys j 0 ≡ byte_of n j) → get_or (put_mid at k xs ys) place 0 ≡ with_number w at n (slice_index xs) place
placed_at xs ys at k w n place inside same len bytes =
    elim (cases_lt place at) [
      | inl before ↦
          get_or_append_left (take at xs) (ys ++ post_of at k xs) 0 place (omega (arith, front))
          ∙ get_or-take at xs place 0 before
          ∙ sym (with_number-outside w at n (slice_index xs) place (inl before))
      | inr from ↦
          get_or-append_right (take at xs) (ys ++ post_of at k xs) at place 0 front from
          ∙ elim (cases_lt place (at + w)) [
            | inl below ↦
                get_or_append_left ys (post_of at k xs) 0 (place - at) (omega arith)
                ∙ bytes (place - at) (omega arith)
                ∙ sym (with_number-inside w at n (slice_index xs) place from below)
            | inr after ↦
                get_or-append_right ys (post_of at k xs) w (place - at) 0 len (omega arith)
                ∙ get_or-drop k (drop at xs) (place - at - w) 0
                ∙ get_or-drop at xs (k + (place - at - w)) 0
                ∙ ap (λ (x : ℕ). get_or xs x 0) (omega arith)
                ∙ sym (with_number-outside w at n (slice_index xs) place (inr after))
          ]
    ]
  where
    front : length (take at xs) ≡ at
    front = length-take-le at xs (omega arith)

-- a slice after a write of w bytes to a part of it
pub placed : (xs ys : List ℕ) (at k w n : ℕ) → at + w ≤ length xs → k ≡ w → length ys ≡ w → ((j : ℕ) → j < w → get_or ys j 0 ≡ byte_of n j) → slice_index (put_mid at k xs ys) ≡ with_number w at n (slice_index xs)
placed xs ys at k w n inside same len bytes = fun_ext (λ (p : ℕ). placed_at xs ys at k w n p inside same len bytes)

-- a slice of which a part now begins with the low bytes of a number
pub placed_bytes : (xs ys rest : List ℕ) (at width w n low : ℕ) → at + width ≤ length xs → width ≡ w → length ys ≡ length (mid_of at (at + width - at) xs) → ys ≡ bytes_low_first 0 w low ++ rest → low ≡ n % 2 ^ (8 * w) → slice_index (put_mid at (at + width - at) xs ys) ≡ with_number width at n (slice_index xs)
placed_bytes xs ys rest at width w n low inside same len e e' =
    placed xs ys at (at + width - at) width n inside (omega arith) (omega (arith, len, mid_len at (at + width) xs inside))
    (λ j h. ap (λ (zs : List ℕ). get_or zs j 0) e ∙ bytes-low w n low rest e' j (omega arith))

-- a slice of which one byte was written
pub placed_byte : (xs : List ℕ) (at width n low : ℕ) → at + width ≤ length xs → width ≡ 1 → low ≡ n % 256 → slice_index (put_mid at (at + width - at) xs (set (mid_of at (at + width - at) xs) 0 low)) ≡ with_number width at n (slice_index xs)
unfolding byte_of
placed_byte xs at width n low inside same e =
    let part : List ℕ = mid_of at (at + width - at) xs in
    let len : length part ≡ at + width - at = mid_len at (at + width) xs inside in
    placed xs (set part 0 low) at (at + width - at) width n inside (omega arith) (omega (arith, len, length-set part 0 low))
    (λ j h. let first : j ≡ 0 = omega arith in
    ap (λ (x : ℕ). get_or (set part 0 low) x 0) first
    ∙ get_or-set_same part 0 low 0 (omega (arith, len)) ∙ e ∙ byte_at-part 0 n
    ∙ ap (λ (x : ℕ). bits_at (8 * x) 8 n) (sym first))

-- the number of `byteorder` in a part of a slice
pub read_at : (width w at : ℕ) (xs : List ℕ) → width ≡ w → little_from 0 w (mid_of at (at + width - at) xs) ≡ number_at width (slice_index xs) at
read_at width w at xs e =
    little_from-take 0 w (at + width - at) (drop at xs) (omega arith)
    ∙ number_at-drop w 0 at xs ∙ ap (λ (x : ℕ). number_at w (slice_index xs) x) (add-zero at)
    ∙ ap (λ (x : ℕ). number_at x (slice_index xs) at) (sym e)

-- ---- laws of the numbers
-- bytes that agree in the range have one number there
pub number_at-same : (w : ℕ) (a b : ℕ → ℕ) (at : ℕ) → ((k : ℕ) → k < w → a (at + k) ≡ b (at + k)) → number_at w a at ≡ number_at w b at
unfolding number_at
number_at-same zero a b at h = refl
number_at-same (suc w) a b at h =
    let ih = number_at-same w a b at (λ k below. h k (omega arith)) in
    let last = h w (omega arith) in
    rw (ih, last) refl

-- the number whose bytes are those of n
number_of_bytes : (w n : ℕ) (b : ℕ → ℕ) (at : ℕ) → ((k : ℕ) → k < w → b (at + k) ≡ byte_of n k) → number_at w b at ≡ bits_at 0 (8 * w) n
unfolding number_at byte_of
number_of_bytes zero n b at h = let below = bits_at-lt 0 0 n in omega (arith, below)
number_of_bytes (suc w) n b at h =
    let ih = number_of_bytes w n b at (λ k below. h k (omega arith)) in
    let last = h w (omega arith) in
    let width : 8 * suc w ≡ 8 + 8 * w = omega arith in
    let whole = bits_at-split 0 (8 * w) 8 n in
    let place : 0 + 8 * w ≡ 8 * w = omega arith in
    rw (ih, last, width, whole, place) (add_comm (bits_at 0 (8 * w) n) (bits_at (8 * w) 8 n * 2 ^ (8 * w)))

-- the number that was written is read back
pub number_at-with_number : (w at n : ℕ) (bytes : ℕ → ℕ) → number_at w (with_number w at n bytes) at ≡ n % 2 ^ (8 * w)
number_at-with_number w at n bytes =
    number_of_bytes w n (with_number w at n bytes) at
    (λ k h. with_number-inside w at n bytes (at + k) (omega arith) (omega arith) ∙ ap (byte_of n) (omega arith))
    ∙ bits_at-lowest (8 * w) n

-- bytes below 256 make a number below its range
pub number_at-lt : (w : ℕ) (bytes : ℕ → ℕ) (at : ℕ) → ((k : ℕ) → bytes k < 256) → number_at w bytes at < 2 ^ (8 * w)
unfolding number_at
number_at-lt zero bytes at h = omega arith
number_at-lt (suc w) bytes at h =
    let ih = number_at-lt w bytes at h in
    let top = mul-add-lt (bytes (at + w)) (2 ^ (8 * w)) (number_at w bytes at) 256 (h (at + w)) ih in
    let power : 2 ^ (8 * suc w) ≡ 2 ^ (8 * w) * 256 = ap (λ (x : ℕ). 2 ^ x) (omega arith) ∙ pow-add 2 (8 * w) 8 in
    omega (arith, top, power)

-- a byte is below 256
pub byte_of-lt : (n k : ℕ) → byte_of n k < 256
unfolding byte_of
byte_of-lt n k = bits_at-lt (8 * k) 8 n
