-- Numbers past the largest one that is told apart stay so.
use Rattle.std.proofs.Common.{◌≡◌, ℕ, ◌+◌, ◌*◌, ◌<◌, ◌≤◌, min, List, [], ◌∷◌, length, drop, get_or, refl, sym, ◌∙◌, add-one, inl, inr, arith}
use Rattle.std.proofs.lemmas.Bool.{cases_lt}
use Rattle.std.proofs.Math.Nat.{le-mul_of_pos_right, min-eq_left, min-eq_right}
use Rattle.std.proofs.Math.Seq.{drop-cons}
use Rattle.asm_lines.specs.Numbers.{value_from, digit_of, largest}

-- digits don't make a number less
large : (base v : ℕ) (digits : List ℕ) → 1 ≤ base → largest ≤ v → largest ≤ value_from base v digits
large base v [] positive h = h
large base v (b ∷ bs) positive h =
    let more : v ≤ v * base = le-mul_of_pos_right v (omega arith) in
    large base (v * base + digit_of b) bs positive (omega (arith, more))

-- it makes no difference where a number is cut down to the largest
pub capped : (base v : ℕ) (digits : List ℕ) → 1 ≤ base → min (value_from base (min v largest) digits) largest ≡ min (value_from base v digits) largest
capped base v digits positive = elim (cases_lt largest v) [
  | inl lt ↦
      rw (min-eq_right {n = largest} {m = v} (omega arith))
      (min-eq_right (large base largest digits positive (omega arith)) ∙ sym (min-eq_right (large base v digits positive (omega arith))))
  | inr le ↦ rw (min-eq_left le) refl
]

-- one digit more
pub next_digit : (base v : ℕ) (digits : List ℕ) (i : ℕ) → i < length digits → value_from base v (drop i digits) ≡ value_from base (v * base + digit_of (get_or digits i 0)) (drop (i + 1) digits)
next_digit base v digits i lt = rw (add-one, drop-cons digits i 0 lt) refl
