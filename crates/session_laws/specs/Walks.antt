-- The tests of readiness and of a hit are their definitions.
use Rattle.std.specs.Prelude.{◌≡◌, ℕ, Bool, true, ◌↔◌, List, Contains}
use Rattle.session_model.specs.Reach.{Reaches, IsReady, IsHit, reaches_some, is_ready, is_hit, deps_at}
use Rattle.session_model.specs.declared.rows.InstRow.{InstRow}

-- walks no longer than the list of rows find an instance that passes the test, where one is reached
abbrev pub WalksSuffice : Type 0
WalksSuffice = (rows : List InstRow) (test : ℕ → Bool) (i : ℕ) →
    (reaches_some rows test i ≡ true) ↔ ((j : ℕ) × Reaches rows i j × (test j ≡ true))

-- the test of readiness is readiness
abbrev pub ReadyIsTested : Type 0
ReadyIsTested = (rows : List InstRow) (i : ℕ) → (is_ready rows i ≡ true) ↔ IsReady rows i

-- the test of a hit is a hit
abbrev pub HitIsTested : Type 0
HitIsTested = (rows : List InstRow) (roots : ℕ → Bool) (i : ℕ) → (is_hit rows roots i ≡ true) ↔ IsHit rows roots i

-- a set that has the dependencies of all its members has all that they reach
abbrev pub ClosedHoldsReached : Type 0
ClosedHoldsReached = (rows : List InstRow) (set : ℕ → Bool) →
    ((i k : ℕ) → set i ≡ true → Contains (deps_at rows i) k → set k ≡ true) →
    (i j : ℕ) → set i ≡ true → Reaches rows i j → set j ≡ true

-- i reaches what its dependencies reach, and what it reaches reaches no further than it does
abbrev pub ReachIsTransitive : Type 0
ReachIsTransitive = (rows : List InstRow) (i j k : ℕ) → Reaches rows i j → Reaches rows j k → Reaches rows i k
