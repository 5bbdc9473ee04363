-- The contents of a section as a range of the file.
use Rattle.std.proofs.Common.{◌≡◌, ℕ, zero, suc, ◌+◌, ◌≤◌, List, [], ◌∷◌, take, drop, length, min, refl, ap, sym, ◌∙◌, inl, inr, arith}
use Rattle.std.proofs.lemmas.List.{length-take, length-drop, drop_all}
use Rattle.std.proofs.Math.Nat.{min-eq_left}
use Rattle.std.proofs.lemmas.Bool.{cases_lt}

-- the first so many of a list, by how many there are
own_length : {X : Type 0} (count : ℕ) (xs : List X) → take (length (take count xs)) xs ≡ take count xs
own_length zero xs = refl
own_length (suc count) [] = refl
own_length (suc count) (x ∷ xs) = ap (λ ys. x ∷ ys) (own_length count xs)

-- what follows a place, by the place or the end, whichever is first
from_within : {X : Type 0} (at : ℕ) (xs : List X) → drop (min at (length xs)) xs ≡ drop at xs
from_within at xs = elim (cases_lt at (length xs)) [
  | inl low ↦ ap (λ (n : ℕ). drop n xs) (min-eq_left (omega arith))
  | inr high ↦ drop_all _ xs (omega arith) ∙ sym (drop_all at xs (omega arith))
]

pub inside : (offset size : ℕ) (bytes : List ℕ) → min offset (length bytes) + length (take size (drop offset bytes)) ≤ length bytes
inside offset size bytes = omega (arith, length-take size (drop offset bytes), length-drop offset bytes)

pub same_range : (offset size : ℕ) (bytes : List ℕ) → take (length (take size (drop offset bytes))) (drop (min offset (length bytes)) bytes) ≡ take size (drop offset bytes)
same_range offset size bytes = ap (λ rest. take (length (take size (drop offset bytes))) rest) (from_within offset bytes) ∙ own_length size (drop offset bytes)
