-- A number that was written is read: a field of the file, where the number's bytes stand there.
use Rattle.std.proofs.Common.{◌≡◌, ℕ, zero, suc, ◌+◌, ◌-◌, ◌*◌, ◌/◌, ◌%◌, ◌^◌, ◌<◌, List, [], ◌∷◌, ◌++◌, length, get_or, take, slice_index, refl, sym, ap, ◌∙◌, length-append, add-zero, add_assoc, arith}
use Rattle.std.proofs.Math.Nat.{mod-eq_of_lt, div-one}
use Rattle.std.proofs.lemmas.Nat.{shr-shr}
use Rattle.orc_words.specs.Bits.{bits_at}
use Rattle.orc_words.specs.Numbers.{byte_of, with_number}
use Rattle.orc_words.proofs.Numbers.{with_number-inside, number_at-same, number_at-with_number}
use Rattle.elf_read.specs.File.{field}
use Rattle.elf_write.specs.Bytes.{number_bytes}
use Rattle.object_reading.specs.Places.{Stands}
use Rattle.object_reading.proofs.Standing.{stands_left, stands_right, stands_moved, stands_byte}

pub length-number_bytes : (w n : ℕ) → length (number_bytes w n) ≡ w
unfolding number_bytes
length-number_bytes zero n = refl
length-number_bytes (suc w) n = ap suc (length-number_bytes w (n / 256))

-- byte k of the bytes of a number
byte-number : (w n k : ℕ) → k < w → get_or (number_bytes w n) k 0 ≡ byte_of n k
unfolding number_bytes byte_of bits_at
byte-number zero n k lt = absurd (omega arith)
byte-number (suc w) n zero lt = ap (λ (x : ℕ). x % 256) (sym (div-one n))
byte-number (suc w) n (suc k) lt =
    let place : 8 + 8 * k ≡ 8 * suc k = omega arith in
    byte-number w (n / 256) k (omega arith)
    ∙ ap (λ (x : ℕ). x % 256) (shr-shr n 8 (8 * k) ∙ ap (λ (x : ℕ). n / 2 ^ x) place)

field-number : {bytes : List ℕ} {at : ℕ} (w n : ℕ) → Stands bytes at (number_bytes w n) → n < 2 ^ (8 * w) → field bytes at w ≡ n
field-number {bytes} {at} w n s small =
    number_at-same w (slice_index bytes) (with_number w at n (slice_index bytes)) at (λ k lt.
    let inside : k < length (number_bytes w n) = omega (arith, length-number_bytes w n) in
    let place : at + k - at ≡ k = omega arith in
    stands_byte s k inside ∙ byte-number w n k lt ∙ ap (byte_of n) (sym place) ∙ sym (with_number-inside w at n (slice_index bytes) (at + k) (omega arith) (omega arith)))
    ∙ number_at-with_number w at n (slice_index bytes)
    ∙ mod-eq_of_lt small

-- ---- numbers one after the other, each in so many bytes

abbrev pub numbers_bytes : List (ℕ × ℕ) → List ℕ
numbers_bytes [] = []
numbers_bytes (p ∷ ps) = number_bytes p.0 p.1 ++ numbers_bytes ps

abbrev pub width : List (ℕ × ℕ) → ℕ
width [] = 0
width (p ∷ ps) = p.0 + width ps

abbrev pub number : List (ℕ × ℕ) → ℕ → ℕ × ℕ
number ps k = get_or ps k (0, 0)

pub length-numbers_bytes : (ps : List (ℕ × ℕ)) → length (numbers_bytes ps) ≡ width ps
length-numbers_bytes [] = refl
length-numbers_bytes (p ∷ ps) = length-append (number_bytes p.0 p.1) (numbers_bytes ps) ∙ (λ i. length-number_bytes p.0 p.1 i + length-numbers_bytes ps i)

-- number k of a row is the field after those before it
pub field_in : {bytes : List ℕ} {at : ℕ} (ps : List (ℕ × ℕ)) (k : ℕ) → k < length ps → Stands bytes at (numbers_bytes ps) → (number ps k).1 < 2 ^ (8 * (number ps k).0) → field bytes (at + width (take k ps)) (number ps k).0 ≡ (number ps k).1
field_in [] k lt s small = absurd (omega arith)
field_in {bytes} {at} (p ∷ ps) zero lt s small = field-number p.0 p.1 (stands_moved (at + 0) (stands_left (number_bytes p.0 p.1) (numbers_bytes ps) s) (omega arith)) small
field_in {bytes} {at} (p ∷ ps) (suc k) lt s small =
    let rest : Stands bytes (at + p.0) (numbers_bytes ps) = stands_moved (at + p.0) (stands_right (number_bytes p.0 p.1) (numbers_bytes ps) s) (ap (λ (n : ℕ). at + n) (length-number_bytes p.0 p.1)) in
    ap (λ (n : ℕ). field bytes n (number ps k).0) (sym (add_assoc at p.0 (width (take k ps)))) ∙ field_in {at = at + p.0} ps k (omega arith) rest small

-- the first number is the field at the place itself
pub field_first : {bytes : List ℕ} {at : ℕ} (ps : List (ℕ × ℕ)) → 0 < length ps → Stands bytes at (numbers_bytes ps) → (number ps 0).1 < 2 ^ (8 * (number ps 0).0) → field bytes at (number ps 0).0 ≡ (number ps 0).1
field_first {bytes} {at} ps some s small = ap (λ (n : ℕ). field bytes n (number ps 0).0) (sym (add-zero at)) ∙ field_in ps 0 some s small
