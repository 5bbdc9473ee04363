-- A text that stands in a table keeps its number there.
use Rattle.std.proofs.Common.{◌≡◌, ℕ, ◌+◌, ◌<◌, Bool, true, List, [], ◌∷◌, ◌++◌, length, inl, inr, refl, sym, ◌∙◌, ap, arith}
use Rattle.std.specs.Prelude.{nat_lt}
use Rattle.std.specs.List.{list_any, position_or_len}
use Rattle.std.specs.Str.{bytes_eq}
use Rattle.std.specs.Cmp.Lexicographic.{nat_list_eq_equiv}
use Rattle.std.proofs.lemmas.Bool.{cases_Bool}
use Rattle.std.proofs.lemmas.Bool.Decides.{nat_tests}
use Rattle.session_script.specs.Texts.{has, number_of, mentioned, all_mentioned}

-- what passes somewhere passes first at a place within
pub within : (p : List ℕ → Bool) (xs : List (List ℕ)) → list_any p xs ≡ true → position_or_len p xs < length xs
within p [] h = absurd cc
within p (x ∷ xs) h = elim (cases_Bool (p x)) [
  | inl t ↦ rw t (omega arith)
  | inr f ↦ let later = within p xs (rw f at h) in rw f (omega arith)
]

-- one more at the end leaves the first place
first_stays : (p : List ℕ → Bool) (xs : List (List ℕ)) (y : List ℕ) → list_any p xs ≡ true → position_or_len p (xs ++ y ∷ []) ≡ position_or_len p xs
first_stays p [] y h = absurd cc
first_stays p (x ∷ xs) y h = elim (cases_Bool (p x)) [
  | inl t ↦ rw t refl
  | inr f ↦ rw f (ap (λ n. 1 + n) (first_stays p xs y (rw f at h)))
]

pub any_stays : (p : List ℕ → Bool) (xs : List (List ℕ)) (y : List ℕ) → list_any p xs ≡ true → list_any p (xs ++ y ∷ []) ≡ true
any_stays p [] y h = absurd cc
any_stays p (x ∷ xs) y h = elim (cases_Bool (p x)) [
  | inl t ↦ rw t refl
  | inr f ↦ rw f (any_stays p xs y (rw f at h))
]

pub any_last : (p : List ℕ → Bool) (xs : List (List ℕ)) (y : List ℕ) → p y ≡ true → list_any p (xs ++ y ∷ []) ≡ true
any_last p [] y h = rw h refl
any_last p (x ∷ xs) y h = elim (cases_Bool (p x)) [
  | inl t ↦ rw t refl
  | inr f ↦ rw f (any_last p xs y h)
]

-- the number of what stands there is its first place
pub number_there : (t : List ℕ) (texts : List (List ℕ)) → has t texts ≡ true → number_of t texts ≡ position_or_len (bytes_eq t) texts
number_there t texts h =
    let low = within (bytes_eq t) texts h in
    let test : nat_lt (position_or_len (bytes_eq t) texts) (length texts) ≡ true = grind (arith, nat_tests) in
    rw test refl

pub has_mentioned : (t u : List ℕ) (texts : List (List ℕ)) → has t texts ≡ true → has t (mentioned u texts) ≡ true
has_mentioned t u texts h = elim (cases_Bool (has u texts)) [
  | inl known ↦ rw known h
  | inr new ↦ rw new (any_stays (bytes_eq t) texts u h)
]

pub has_itself : (t : List ℕ) (texts : List (List ℕ)) → has t (mentioned t texts) ≡ true
has_itself t texts = elim (cases_Bool (has t texts)) [
  | inl known ↦ rw known known
  | inr new ↦ rw new (any_last (bytes_eq t) texts t (nat_list_eq_equiv.refl t))
]

number_mentioned : (t u : List ℕ) (texts : List (List ℕ)) → has t texts ≡ true → number_of t (mentioned u texts) ≡ number_of t texts
number_mentioned t u texts h = elim (cases_Bool (has u texts)) [
  | inl known ↦ rw known refl
  | inr new ↦ rw new (number_there t (texts ++ u ∷ []) (any_stays (bytes_eq t) texts u h) ∙ first_stays (bytes_eq t) texts u h ∙ sym (number_there t texts h))
]

-- more texts leave the number of one that is there
pub number_of_known : (t : List ℕ) (more texts : List (List ℕ)) → has t texts ≡ true → number_of t (all_mentioned more texts) ≡ number_of t texts
number_of_known t [] texts h = refl
number_of_known t (u ∷ more) texts h = number_of_known t more (mentioned u texts) (has_mentioned t u texts h) ∙ number_mentioned t u texts h

-- a text has its number from its mention on
pub number_stays : (t : List ℕ) (more texts : List (List ℕ)) → number_of t (all_mentioned more (mentioned t texts)) ≡ number_of t (mentioned t texts)
number_stays t more texts = number_of_known t more (mentioned t texts) (has_itself t texts)
