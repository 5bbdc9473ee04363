-- How often a query's number stands in lists of numbers.
use Rattle.std.specs.Prelude.{ℕ, ◌+◌, List, [], ◌∷◌, zero, suc, ◌==◌, if◌then◌else◌}

-- how often k is in the list
abbrev pub count : ℕ → List ℕ → ℕ
count k [] = 0
count k (x ∷ xs) = (if x == k then 1 else 0) + count k xs

-- how often k is in all lists together
abbrev pub total : ℕ → List (List ℕ) → ℕ
total k [] = 0
total k (l ∷ ls) = count k l + total k ls

-- the list of this number, empty past the last one
abbrev pub list_at : List (List ℕ) → ℕ → List ℕ
list_at [] i = []
list_at (l ∷ ls) zero = l
list_at (l ∷ ls) (suc i) = list_at ls i
