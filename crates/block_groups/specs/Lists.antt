-- A list for each number.
use Rattle.std.specs.Prelude.{◌≡◌, ℕ, ◌==◌, List, [], ◌∷◌, ◌++◌, length, slice_index_or, if◌then◌else◌, Contains, ◌⊎◌}

-- the list of a number; there is nothing in those past the count
abbrev pub row : {X : Type 0} → List (List X) → ℕ → List X
row lists k = slice_index_or lists k []

-- one element more at the end of the list k
pub record IsPushed {X : Type 0} (old : List (List X)) (k : ℕ) (x : X) (new : List (List X)) : Type 0 where
  pub whole : length new ≡ length old
  pub rows : (j : ℕ) → row new j ≡ (if k == j then row old j ++ x ∷ [] else row old j)

-- one element more in the list k, if it wasn't there
pub record IsAdded (old : List (List ℕ)) (k x : ℕ) (new : List (List ℕ)) : Type 0 where
  pub whole : length new ≡ length old
  pub here : Contains (row new k) x
  pub stays : (j y : ℕ) → Contains (row old j) y → Contains (row new j) y
  pub only : (j y : ℕ) → Contains (row new j) y → Contains (row old j) y ⊎ ((k ≡ j) × (x ≡ y))
