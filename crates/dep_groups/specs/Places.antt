-- Tables by number: what stands in a place, and past the end nothing.
use Rattle.std.specs.Prelude.{ℕ, Bool, false, Option, Some, None, List, [], ◌∷◌, suc, slice_get, unwrap_or, cond}

-- what is in a place, if there is such a place
abbrev pub within_place : {X : Type 0} → Option (Option X) → Option X
within_place None = None
within_place (Some o) = o

-- what stands in the place k
unfoldable pub place : List (Option ℕ) → ℕ → Option ℕ
place xs k = within_place (slice_get xs k)

-- whether the flag number k is set
unfoldable pub is_set : List Bool → ℕ → Bool
is_set xs k = unwrap_or (slice_get xs k) false

-- how many flags are not set
abbrev pub unset : List Bool → ℕ
unset [] = 0
unset (x ∷ xs) = cond x (unset xs) (suc (unset xs))
