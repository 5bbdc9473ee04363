-- What `parse` makes of a text, and the number that the text is.
use Rattle.std.proofs.Common.{◌≡◌, ◌≢◌, ℕ, ◌+◌, ◌-◌, ◌*◌, ◌<◌, ◌^◌, Bool, true, false, List, [], ◌∷◌, length, slice_index, Option, Some, None, Result, Ok, Err, refl, ◌∙◌, inl, inr, nat_lt, nat_le, if◌then◌else◌, MatchOption, arith, rules}
use Rattle.std.specs.Str.{all_ascii_digits}
use Rattle.std.specs.Result.{OkIff, result_ok}
use Rattle.std.specs.Bool.{then_some}
use Rattle.std.specs.Str.Parse.{ParsesUnsigned}
use Rattle.std.proofs.lemmas.Bool.{cases_Bool}
use Rattle.std.proofs.lemmas.Bool.Decides.{nat_tests}
use Rattle.std.proofs.lemmas.Str.Parse.{IsNumeralModel, numerals_by_fold, parse_plain}
use Rattle.command_line.specs.Numbers.{is_padded, is_digit, number_after, number_of, at_most}

-- what digits write after those that wrote n
abbrev written : ℕ → List ℕ → ℕ
written n [] = n
written n (c ∷ cs) = written (10 * n + (c - 48)) cs

digits_written : IsNumeralModel (λ ds. all_ascii_digits ds ≡ true) (written 0)
digits_written = numerals_by_fold _ (search rules) written (search rules)

after_is : (n : ℕ) (cs : List ℕ) → number_after n cs ≡ (if all_ascii_digits cs then Some (written n cs) else None)
after_is n [] = refl
after_is n (c ∷ cs) = elim (cases_Bool (is_digit c)) [
  | inl digit ↦ rw digit (after_is (10 * n + (c - 48)) cs)
  | inr other ↦ rw other refl
]

-- without such a front only the digits matter
unpadded : (text : List ℕ) → is_padded text ≡ false → 0 < length text → number_of text ≡ number_after 0 text
unpadded [] plain some = absurd (omega arith)
unpadded (c ∷ []) plain some = grind (arith, nat_tests)
unpadded (c ∷ d ∷ cs) plain some = grind (arith, nat_tests)

number_is : (text : List ℕ) → is_padded text ≡ false → 0 < length text → number_of text ≡ (if all_ascii_digits text then Some (written 0 text) else None)
number_is text plain some = unpadded text plain some ∙ after_is 0 text

below_is_less : (m n : ℕ) → nat_lt m n ≡ true → m < n
below_is_less m n below = grind (arith, nat_tests)

too_large : (most n : ℕ) → most < 2 ^ 64 → nat_lt n (2 ^ 64) ≡ false → None ≡ at_most most (Some n)
too_large most n small above = grind (arith, nat_tests)

of_parsed : {E : Type 0} (most : ℕ) (text : List ℕ) (r : Result ℕ E) → most < 2 ^ 64 → is_padded text ≡ false → OkIff r ((all_ascii_digits text ≡ true) × (0 < length text) × (written 0 text < 2 ^ 64)) (written 0 text) →
    at_most most (result_ok r) ≡ at_most most (number_of text)
of_parsed most text (Ok n) small plain h = rw (number_is text plain h.0.1, h.0.0, h.1) refl
of_parsed most [] (Err e) small plain h = refl
of_parsed most (c ∷ cs) (Err e) small plain h = elim (cases_Bool (all_ascii_digits (c ∷ cs))) [
  | inl digits ↦ elim (cases_Bool (nat_lt (written 0 (c ∷ cs)) (2 ^ 64))) [
    | inl below ↦ absurd (h (digits, omega arith, below_is_less _ _ below))
    | inr above ↦ rw (number_is (c ∷ cs) plain (omega arith), digits) (too_large most _ small above)
  ]
  | inr other ↦ rw (number_is (c ∷ cs) plain (omega arith), other) refl
]

no_plus : (text : List ℕ) → is_padded text ≡ false → slice_index text 0 ≢ 43
no_plus text plain = λ plus. absurd (let padded : is_padded text ≡ true = rw plus refl in cc)

-- what `parse` gives, if it is small enough, is the number
pub parsed : {E : Type 0} (most : ℕ) (text : List ℕ) (r : Result ℕ E) → most < 2 ^ 64 → is_padded text ≡ false → ParsesUnsigned 64 10 text r → at_most most (result_ok r) ≡ at_most most (number_of text)
parsed most text r small plain h = of_parsed most text r small plain (parse_plain digits_written 64 text r h (no_plus text plain))

then_some_is : (b : Bool) (n : ℕ) → then_some b n ≡ (if b then Some n else None)
then_some_is true n = refl
then_some_is false n = refl

-- `filter`, with a test that tells whether a number is at most this
pub filtered : (most : ℕ) (Tells : ℕ → Bool → Type 0) → ((n : ℕ) (b : Bool) → Tells n b → b ≡ nat_le n most) → (number answer : Option ℕ) → MatchOption number (answer ≡ None) (λ n. (b : Bool) × Tells n b × (answer ≡ then_some b n)) → answer ≡ at_most most number
filtered most Tells says (Some n) answer h = h.2 ∙ then_some_is h.0 n ∙ rw (says n h.0 h.1) refl
filtered most Tells says None answer h = h
