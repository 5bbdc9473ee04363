-- A number that has passed a limit has passed it, whatever digits follow.
use Rattle.std.proofs.Common.{◌≡◌, ℕ, suc, ◌+◌, ◌*◌, ◌≤◌, ◌<◌, true, List, [], ◌∷◌, length, get_or, drop, Option, None, inl, inr, refl, sym, ap, ◌∙◌, arith}
use Rattle.std.proofs.Math.Seq.{drop-cons}
use Rattle.std.proofs.Math.Nat.{mul-le-mul_right}
use Rattle.std.proofs.lemmas.Bool.{cases_Bool}
use Rattle.std.specs.Prelude.{nat_lt}
use Rattle.session_script.specs.Words.{digit_value, number_after, at_most}

grown : (base n v : ℕ) → suc 0 ≤ base → n ≤ base * n + v
grown base n v h = omega (arith, mul-le-mul_right n h)

passed_stays : (base most n : ℕ) (bs : List ℕ) → 0 < base → most < n → at_most most (number_after base n bs) ≡ None
passed_stays base most n [] positive h = grind arith
passed_stays base most n (b ∷ bs) positive h = elim (cases_Bool (nat_lt (digit_value b) base)) [
  | inl t ↦ rw t (passed_stays base most (base * n + digit_value b) bs positive (omega (arith, grown base n (digit_value b) (omega arith))))
  | inr f ↦ rw f refl
]

-- the same at the digit with which it passes
pub passed_at : (base most n : ℕ) (bs : List ℕ) (k : ℕ) (all : Option ℕ) → 0 < base → k < length bs → nat_lt (digit_value (get_or bs k 0)) base ≡ true → most < base * n + digit_value (get_or bs k 0) → at_most most (number_after base n (drop k bs)) ≡ all → None ≡ all
passed_at base most n bs k all positive within digit passed so_far =
    sym (rw digit (passed_stays base most (base * n + digit_value (get_or bs k 0)) (drop (suc k) bs) positive passed))
    ∙ ap (λ (xs : List ℕ). at_most most (number_after base n xs)) (sym (drop-cons bs k 0 within))
    ∙ so_far
