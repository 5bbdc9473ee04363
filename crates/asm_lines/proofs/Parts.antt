-- The parts between commas, one after the other.
use Rattle.std.proofs.Common.{◌≡◌, ℕ, ◌+◌, ◌<◌, Bool, true, false, cond, List, [], ◌∷◌, length, take, drop, Some, None, nat_lt, suc, refl, sym, ◌∙◌, inl, inr, arith}
use Rattle.std.specs.List.{slice_split, position_or_len, position}
use Rattle.std.proofs.lemmas.Bool.{cases_lt, cases_Bool, lt-ltb, le-ltb}
use Rattle.std.proofs.lemmas.List.Splits.{slice_split_first}

none_if : {A : Type 0} (test : Bool) (x : A) → cond test (Some x) None ≡ None → test ≡ false
none_if true x e = cc
none_if false x e = refl

some_if : (test : Bool) (x y : ℕ) → cond test (Some x) None ≡ Some y → (test ≡ true) × (x ≡ y)
some_if true x y e = (refl, cc)
some_if false x y e = cc

-- where nothing parts a list, it is the one part
uncut : {X : Type 0} (p : X → Bool) (xs : List X) → nat_lt (position_or_len p xs) (length xs) ≡ false → slice_split p xs ≡ xs ∷ []
uncut p [] e = refl
uncut p (x ∷ xs) e = elim (cases_Bool (p x)) [
  | inl passes ↦ let l = lt-ltb 0 (suc (length xs)) (omega arith) in let f = rw passes at e in cc
  | inr fails ↦ let f = rw fails at e in rw (fails, uncut p xs (sym (later (position_or_len p xs) (length xs)) ∙ f)) refl
]
  where
    later : (a b : ℕ) → nat_lt (1 + a) (suc b) ≡ nat_lt a b
    later a b = elim (cases_lt a b) [
      | inl lt ↦ lt-ltb (1 + a) (suc b) (omega arith) ∙ sym (lt-ltb a b lt)
      | inr le ↦ le-ltb (1 + a) (suc b) (omega arith) ∙ sym (le-ltb a b le)
    ]

pub last_part : {X : Type 0} (p : X → Bool) (xs : List X) → position p xs ≡ None → slice_split p xs ≡ xs ∷ []
last_part p xs e = uncut p xs (none_if (nat_lt (position_or_len p xs) (length xs)) (position_or_len p xs) e)

pub first_part : (p : ℕ → Bool) (xs : List ℕ) (n : ℕ) → position p xs ≡ Some n → slice_split p xs ≡ take n xs ∷ slice_split p (drop (n + 1) xs)
first_part p xs n e =
    let f : (nat_lt (position_or_len p xs) (length xs) ≡ true) × (position_or_len p xs ≡ n) = some_if (nat_lt (position_or_len p xs) (length xs)) (position_or_len p xs) n e in
    let lt : position_or_len p xs < length xs = grind (arith, f.0) in
    rw (← f.1) (slice_split_first p xs 0 lt)
