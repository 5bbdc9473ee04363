-- Notifiers that are numbered by their places.
use Rattle.std.specs.Prelude.{◌≡◌, ℕ, ◌+◌, List, slice_get, Some}

-- they are numbered on from this number, in their order
abbrev pub AreNumberedFrom : {N : Type 0} → (N → ℕ) → ℕ → List N → Type 0
AreNumberedFrom {N} number first notes = (k : ℕ) (n : N) → slice_get notes k ≡ Some n → number n ≡ first + k
