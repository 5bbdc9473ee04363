-- What the parts of a word are after one part was replaced.
use Rattle.std.proofs.Common.{◌≡◌, ℕ, ◌+◌, ◌-◌, ◌*◌, ◌/◌, ◌%◌, ◌^◌, ◌<◌, ◌≤◌, ◌⊎◌, inl, inr, bit_and, refl, sym, ap, subst, ◌∙◌, arith}
use Rattle.std.proofs.Math.Nat.{add-mul, mul_assoc, mul_comm, mod-lt, mod-eq_of_lt, div-one}
use Rattle.std.proofs.lemmas.Nat.{pow_pos, pow-add, shr-shr, shr_high, mod_low, shr_split, mod-pow-add, field_of, mul-add-lt, shr_below, one_shl, and_mask}
use Rattle.std.specs.Int.{bit_at}
use Rattle.orc_words.specs.Bits.{bits_at, with_bits}

-- a part is below its count's power
pub bits_at-lt : (low count word : ℕ) → bits_at low count word < 2 ^ count
unfolding bits_at
bits_at-lt low count word = mod-lt (word / 2 ^ low) (pow_pos count)

-- the lowest bits are a remainder
pub bits_at-lowest : (n p : ℕ) → bits_at 0 n p ≡ p % 2 ^ n
unfolding bits_at
bits_at-lowest n p = ap (λ (x : ℕ). x % 2 ^ n) (div-one p)

-- one bit is a part of one bit
pub bit_at-part : (word i : ℕ) → bit_at word i ≡ bits_at i 1 word
unfolding bits_at
bit_at-part word i = refl

-- a part is its upper bits and its lower bits
pub bits_at-split : (low a b word : ℕ) → bits_at low (b + a) word ≡ bits_at (low + a) b word * 2 ^ a + bits_at low a word
unfolding bits_at
bits_at-split low a b word =
    mod-pow-add (word / 2 ^ low) b a ∙ ap (λ (x : ℕ). x % 2 ^ b * 2 ^ a + word / 2 ^ low % 2 ^ a) (shr-shr word low a)

-- the low bits of the low bits
pub mod-low_mod : (n k m : ℕ) → n % 2 ^ (m + k) % 2 ^ k ≡ n % 2 ^ k
mod-low_mod n k m =
    ap (λ (x : ℕ). x % 2 ^ k) (mod-pow-add n m k) ∙ mod_low (n / 2 ^ k % 2 ^ m) k (n % 2 ^ k) (mod-lt n (pow_pos k))

-- a replaced word, as two digits
with_form : (low count word part : ℕ) → with_bits low count word part ≡ (word / 2 ^ (low + count) * 2 ^ count + part) * 2 ^ low + word % 2 ^ low
unfolding with_bits
with_form low count word part =
    let high : ℕ = word / 2 ^ (low + count) in
    let turned : high * 2 ^ (low + count) ≡ high * 2 ^ count * 2 ^ low =
    ap (λ (x : ℕ). high * x) (pow-add 2 low count ∙ mul_comm (2 ^ low) (2 ^ count)) ∙ sym (mul_assoc high (2 ^ count) (2 ^ low)) in
    let spread = add-mul (high * 2 ^ count) part (2 ^ low) in
    omega (arith, turned, spread)

-- its bits from the part up, above the part, and below it
with_from : (low count word part : ℕ) → with_bits low count word part / 2 ^ low ≡ word / 2 ^ (low + count) * 2 ^ count + part
with_from low count word part =
    ap (λ (x : ℕ). x / 2 ^ low) (with_form low count word part)
    ∙ shr_high (word / 2 ^ (low + count) * 2 ^ count + part) low (word % 2 ^ low) (mod-lt word (pow_pos low))

with_above : (low count word part : ℕ) → part < 2 ^ count → with_bits low count word part / 2 ^ (low + count) ≡ word / 2 ^ (low + count)
with_above low count word part h =
    sym (shr-shr (with_bits low count word part) low count)
    ∙ ap (λ (x : ℕ). x / 2 ^ count) (with_from low count word part)
    ∙ shr_high (word / 2 ^ (low + count)) count part h

with_below : (low count word part : ℕ) → with_bits low count word part % 2 ^ low ≡ word % 2 ^ low
with_below low count word part =
    ap (λ (x : ℕ). x % 2 ^ low) (with_form low count word part)
    ∙ mod_low (word / 2 ^ (low + count) * 2 ^ count + part) low (word % 2 ^ low) (mod-lt word (pow_pos low))

-- the part that was written is read back
pub bits_at-with_same : (low count word part : ℕ) → part < 2 ^ count → bits_at low count (with_bits low count word part) ≡ part
unfolding bits_at
bits_at-with_same low count word part h =
    ap (λ (x : ℕ). x % 2 ^ count) (with_from low count word part) ∙ mod_low (word / 2 ^ (low + count)) count part h

-- the parts above it stay
pub bits_at-with_above : (at n low count word part : ℕ) → part < 2 ^ count → low + count ≤ at → bits_at at n (with_bits low count word part) ≡ bits_at at n word
unfolding bits_at
bits_at-with_above at n low count word part h above =
    let gap : ℕ = at - (low + count) in
    let place : at ≡ low + count + gap = omega arith in
    let new : ℕ = with_bits low count word part in
    let shifted : new / 2 ^ at ≡ word / 2 ^ at =
    ap (λ (x : ℕ). new / 2 ^ x) place ∙ sym (shr-shr new (low + count) gap)
    ∙ ap (λ (x : ℕ). x / 2 ^ gap) (with_above low count word part h)
    ∙ shr-shr word (low + count) gap ∙ ap (λ (x : ℕ). word / 2 ^ x) (sym place) in
    ap (λ (x : ℕ). x % 2 ^ n) shifted

-- a part that lies in the low bits is a part of them
part_of_low : (at n low word : ℕ) → at + n ≤ low → bits_at at n word ≡ word % 2 ^ low % 2 ^ (n + at) / 2 ^ at
unfolding bits_at
part_of_low at n low word below =
    let gap : ℕ = low - (n + at) in
    let place : low ≡ gap + (n + at) = omega arith in
    sym (field_of word n at)
    ∙ ap (λ (x : ℕ). x / 2 ^ at) (sym (mod-low_mod word (n + at) gap))
    ∙ ap (λ (x : ℕ). word % 2 ^ x % 2 ^ (n + at) / 2 ^ at) (sym place)

-- a part of the low bits is that part of the word
pub bits_at-low_of : (at n low word : ℕ) → at + n ≤ low → bits_at at n (word % 2 ^ low) ≡ bits_at at n word
bits_at-low_of at n low word below =
    part_of_low at n low (word % 2 ^ low) below
    ∙ ap (λ (x : ℕ). x % 2 ^ (n + at) / 2 ^ at) (mod-eq_of_lt (mod-lt word (pow_pos low)))
    ∙ sym (part_of_low at n low word below)

-- the parts below it stay
pub bits_at-with_below : (at n low count word part : ℕ) → at + n ≤ low → bits_at at n (with_bits low count word part) ≡ bits_at at n word
bits_at-with_below at n low count word part below =
    part_of_low at n low (with_bits low count word part) below
    ∙ ap (λ (x : ℕ). x % 2 ^ (n + at) / 2 ^ at) (with_below low count word part)
    ∙ sym (part_of_low at n low word below)

-- the other bits stay
pub bit_at-with_other : (low count word part i : ℕ) → part < 2 ^ count → (i < low) ⊎ (low + count ≤ i) → bit_at (with_bits low count word part) i ≡ bit_at word i
unfolding bits_at
bit_at-with_other low count word part i h (inl below) = bits_at-with_below i 1 low count word part (omega arith)
bit_at-with_other low count word part i h (inr above) = bits_at-with_above i 1 low count word part h above

-- a replaced word has no more bits than the word
pub with_bits-lt : (width low count word part : ℕ) → low + count ≤ width → word < 2 ^ width → part < 2 ^ count → with_bits low count word part < 2 ^ width
with_bits-lt width low count word part inside hw hp =
    let gap : ℕ = width - (low + count) in
    let place : width ≡ gap + (low + count) = omega arith in
    let new : ℕ = with_bits low count word part in
    let below : word < 2 ^ (gap + (low + count)) = subst (λ (x : ℕ). word < 2 ^ x) place hw in
    let high : new / 2 ^ (low + count) < 2 ^ gap =
    subst (λ (x : ℕ). x < 2 ^ gap) (sym (with_above low count word part hp)) (shr_below word gap (low + count) below) in
    let rest : new % 2 ^ (low + count) < 2 ^ (low + count) = mod-lt new (pow_pos (low + count)) in
    let whole = mul-add-lt (new / 2 ^ (low + count)) (2 ^ (low + count)) (new % 2 ^ (low + count)) (2 ^ gap) high rest in
    let power : 2 ^ width ≡ 2 ^ (low + count) * 2 ^ gap =
    ap (λ (x : ℕ). 2 ^ x) place ∙ pow-add 2 gap (low + count) ∙ mul_comm (2 ^ gap) (2 ^ (low + count)) in
    let joined = shr_split new (low + count) in
    omega (arith, whole, power, joined)

-- a replaced word as shifts and masks make it in 64 bits
pub with_bits-shifts : (low count word part : ℕ) → low + count ≤ 32 → word < 2 ^ 32 → part < 2 ^ count → word / 2 ^ (low + count) * 2 ^ (low + count) % 2 ^ 64 + part * 2 ^ low % 2 ^ 64 + bit_and word (1 * 2 ^ low % 2 ^ 64 - 1) ≡ with_bits low count word part
unfolding with_bits
with_bits-shifts low count word part inside hw hp =
    let below : with_bits low count word part < 2 ^ 32 = with_bits-lt 32 low count word part inside hw hp in
    let high : word / 2 ^ (low + count) * 2 ^ (low + count) < 2 ^ 64 = omega (arith, below) in
    let middle : part * 2 ^ low < 2 ^ 64 = omega (arith, below) in
    let mask : 1 * 2 ^ low % 2 ^ 64 ≡ 2 ^ low = one_shl low 64 (omega arith) in
    let kept : bit_and word (2 ^ low - 1) ≡ word % 2 ^ low = and_mask word low in
    let e1 : word / 2 ^ (low + count) * 2 ^ (low + count) % 2 ^ 64 ≡ word / 2 ^ (low + count) * 2 ^ (low + count) = mod-eq_of_lt high in
    let e2 : part * 2 ^ low % 2 ^ 64 ≡ part * 2 ^ low = mod-eq_of_lt middle in
    rw (e1, e2, mask, kept) refl

-- a word with a part replaced by that part is the word
pub with_bits-self : (low count word : ℕ) → with_bits low count word (bits_at low count word) ≡ word
unfolding bits_at
with_bits-self low count word =
    with_form low count word (bits_at low count word)
    ∙ ap (λ (x : ℕ). (x * 2 ^ count + word / 2 ^ low % 2 ^ count) * 2 ^ low + word % 2 ^ low) (sym (shr-shr word low count))
    ∙ ap (λ (x : ℕ). x * 2 ^ low + word % 2 ^ low) (shr_split (word / 2 ^ low) count)
    ∙ shr_split word low
