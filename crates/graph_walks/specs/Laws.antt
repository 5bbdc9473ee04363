-- What follows of walks.
use Rattle.std.specs.Prelude.{◌≡◌, ℕ, Bool, true, ◌↔◌, List, Contains}
use Rattle.graph_walks.specs.Walks.{Reaches, IsBounded, within}

-- where nothing follows a number from n on, walks of n steps find a number that passes the test
-- wherever one is reached
abbrev pub WalksSuffice : Type 0
WalksSuffice = (n : ℕ) (next : ℕ → List ℕ) (test : ℕ → Bool) (i : ℕ) → IsBounded n next →
    (within n next test i ≡ true) ↔ ((j : ℕ) × Reaches next i j × (test j ≡ true))

-- a set that has all that follows its members has all that they reach
abbrev pub ClosedHoldsReached : Type 0
ClosedHoldsReached = (next : ℕ → List ℕ) (set : ℕ → Bool) →
    ((i k : ℕ) → set i ≡ true → Contains (next i) k → set k ≡ true) →
    (i j : ℕ) → set i ≡ true → Reaches next i j → set j ≡ true

-- what is reached in two stretches is reached
abbrev pub ReachIsTransitive : Type 0
ReachIsTransitive = (next : ℕ → List ℕ) (i j k : ℕ) → Reaches next i j → Reaches next j k → Reaches next i k
