-- Ranges of addresses that rise, each from where the one before ends.
use Rattle.std.specs.Prelude.{ℕ, ◌+◌, ◌≤◌, ◌<◌, List, [], ◌∷◌}

-- the ranges lie from low up to high, in rising order and apart, and none is empty
abbrev pub AreApart : {X : Type 0} → (X → ℕ) → (X → ℕ) → ℕ → List X → ℕ → Type 0
AreApart base size low [] high = low ≤ high
AreApart base size low (x ∷ xs) high = (low ≤ base x) × (0 < size x) × AreApart base size (base x + size x) xs high
