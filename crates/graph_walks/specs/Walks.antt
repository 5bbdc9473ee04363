-- Walks over numbers: from each number one may go on to the ones that `next` lists.
use Rattle.std.specs.Prelude.{◌≡◌, ℕ, zero, suc, ◌≤◌, Bool, ◌||◌, List, [], ◌∷◌, Contains}
use Rattle.std.specs.List.{list_any}

-- the list leads from i to j, each one following the one before
abbrev pub IsPath : (ℕ → List ℕ) → ℕ → List ℕ → ℕ → Type 0
IsPath next i [] j = i ≡ j
IsPath next i (k ∷ ks) j = Contains (next i) k × IsPath next k ks j

-- i reaches j: every number reaches itself
pub record Reaches (next : ℕ → List ℕ) (i j : ℕ) : Type 0 where
  pub path : List ℕ
  pub leads : IsPath next i path j

-- a walk of at most so many steps comes to a number that passes the test
unfoldable pub within : ℕ → (ℕ → List ℕ) → (ℕ → Bool) → ℕ → Bool
within zero next test i = test i
within (suc n) next test i = test i || list_any (within n next test) (next i)

-- nothing follows a number from n on
abbrev pub IsBounded : ℕ → (ℕ → List ℕ) → Type 0
IsBounded n next = (i : ℕ) → n ≤ i → next i ≡ []
