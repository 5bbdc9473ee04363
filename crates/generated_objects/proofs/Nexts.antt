-- The next function is one of them.
use Rattle.std.proofs.Common.{◌≡◌, ℕ, ◌+◌, ◌-◌, ◌<◌, ◌⊎◌, inl, inr, Bool, true, false, refl, arith}
use Rattle.std.specs.Prelude.{◌%◌, ◌==◌, ◌||◌, if◌then◌else◌}
use Rattle.std.proofs.lemmas.Bool.{both_ways, cases_eq, eq-eqb, or_right}
use Rattle.generated_objects.specs.Rings.{RING, first_of, next}

pub next_below : (n k : ℕ) → k < n → next n k < n
next_below n k below = split (cases_eq (k + 1) n)
  where
    ends : (b : Bool) → b ≡ true → (if b then first_of k else k + 1) < n
    ends true e = omega (arith, below)
    ends false e = absurd (both_ways false refl e)

    either : (b : Bool) → k + 1 < n → (if b then first_of k else k + 1) < n
    either true lt = omega (arith, below)
    either false lt = lt

    split : (k + 1 ≡ n) ⊎ (k + 1 ≡ n → ⊥) → next n k < n
    split (inl is) = ends ((k + 1) % RING == 0 || k + 1 == n) (or_right ((k + 1) % RING == 0) (k + 1 == n) (eq-eqb (k + 1) n is))
    split (inr apart) = either ((k + 1) % RING == 0 || k + 1 == n) (omega (arith, below, apart))
