-- Where a text is cut, from the place that a search tells.
use Rattle.std.proofs.Common.{◌≡◌, ℕ, ◌+◌, ◌≤◌, Bool, List, [], length, take, drop, inl, inr, refl, sym, arith}
use Rattle.std.specs.Prelude.{Some, None, nat_lt, position}
use Rattle.std.specs.List.{position_or_len, before_first, after_first}
use Rattle.std.proofs.lemmas.Bool.{cases_Bool}
use Rattle.std.proofs.lemmas.Bool.Decides.{nat_tests}
use Rattle.std.proofs.lemmas.List.{take_all, drop_all}

found_at : (p : ℕ → Bool) (text : List ℕ) (at : ℕ) → position p text ≡ Some at → position_or_len p text ≡ at
found_at p text at told = elim (cases_Bool (nat_lt (position_or_len p text) (length text))) [
  | inl t ↦ cc (rw t at told)
  | inr f ↦ cc (rw f at told)
]

not_found : (p : ℕ → Bool) (text : List ℕ) → position p text ≡ None → length text ≤ position_or_len p text
not_found p text told = elim (cases_Bool (nat_lt (position_or_len p text) (length text))) [
  | inl t ↦ absurd (cc (rw t at told))
  | inr f ↦ grind (arith, nat_tests)
]

pub before_found : (p : ℕ → Bool) (text : List ℕ) (at : ℕ) → position p text ≡ Some at → take at text ≡ before_first p text
before_found p text at told = rw (found_at p text at told) refl

pub after_found : (p : ℕ → Bool) (text : List ℕ) (at : ℕ) → position p text ≡ Some at → drop (at + 1) text ≡ after_first p text
after_found p text at told = rw (found_at p text at told) refl

pub before_none : (p : ℕ → Bool) (text : List ℕ) → position p text ≡ None → text ≡ before_first p text
before_none p text told = sym (take_all (position_or_len p text) text (not_found p text told))

pub after_none : (p : ℕ → Bool) (text : List ℕ) → position p text ≡ None → [] ≡ after_first p text
after_none p text told = let past = not_found p text told in sym (drop_all (position_or_len p text + 1) text (omega arith))
