-- What a write to one element makes of a list, and of a count over it.
use Rattle.std.proofs.Common.{◌≡◌, ℕ, Bool, true, Some, ◌+◌, ◌<◌, ◌≤◌, List, [], ◌∷◌, length, get_or, set, zero, suc, cond, refl, ap, ◌∙◌, arith}
use Rattle.std.specs.Prelude.{option_map, slice_get, count_by}
use Rattle.std.proofs.lemmas.List.Sums.{sum_by-set}
use Rattle.session_model.specs.Lists.{changed_at}

pub set_is_changed : {X : Type 0} (f : X → X) (xs : List X) (at : ℕ) (old new : X) → at < length xs → old ≡ get_or xs at old → new ≡ f old → set xs at new ≡ changed_at at f xs
set_is_changed f [] at old new less read is = absurd (omega arith)
set_is_changed f (x ∷ xs) zero old new less read is = ap (λ y. y ∷ xs) (is ∙ ap f read)
set_is_changed f (x ∷ xs) (suc at) old new less read is = ap (λ ys. x ∷ ys) (set_is_changed f xs at old new (omega arith) read is)

-- an element that passes a test is there
pub is_there : {X : Type 0} (p : X → Bool) (xs : List X) (at : ℕ) → option_map p (slice_get xs at) ≡ Some true → at < length xs
is_there p [] at is = absurd cc
is_there p (x ∷ xs) zero is = omega arith
is_there p (x ∷ xs) (suc at) is = let h = is_there p xs at is in omega arith

-- what is read there passes it
pub read_passes : {X : Type 0} (p : X → Bool) (xs : List X) (at : ℕ) (old : X) → option_map p (slice_get xs at) ≡ Some true → old ≡ get_or xs at old → p old ≡ true
read_passes p [] at old is read = absurd cc
read_passes p (x ∷ xs) zero old is read = let e : p x ≡ true = cc in ap p read ∙ e
read_passes p (x ∷ xs) (suc at) old is read = read_passes p xs at old is read

-- a count after a write
pub count_write : {X : Type 0} (p : X → Bool) (xs : List X) (at : ℕ) (old new : X) → at < length xs → old ≡ get_or xs at old → count_by p (set xs at new) + cond (p old) 1 0 ≡ count_by p xs + cond (p new) 1 0
count_write p xs at old new less read = ap (λ y. count_by p (set xs at new) + cond (p y) 1 0) read ∙ sum_by-set (λ y. cond (p y) 1 0) xs at new old less

-- one and the same value, wherever it is written
pub set_same : {X : Type 0} (xs : List X) (at : ℕ) (y : X) → set xs at y ≡ changed_at at (λ x. y) xs
set_same [] at y = refl
set_same (x ∷ xs) zero y = refl
set_same (x ∷ xs) (suc at) y = ap (λ ys. x ∷ ys) (set_same xs at y)

-- past the end nothing changes
pub changed_past : {X : Type 0} (f : X → X) (at : ℕ) (xs : List X) → length xs ≤ at → xs ≡ changed_at at f xs
changed_past f at [] past = refl
changed_past f zero (x ∷ xs) past = absurd (omega (arith, past))
changed_past f (suc at) (x ∷ xs) past = ap (λ ys. x ∷ ys) (changed_past f at xs (omega (arith, past)))
