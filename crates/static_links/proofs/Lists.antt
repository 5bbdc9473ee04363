-- Elements of lists: what a search, a filter or a test of some element tells of them.
use Rattle.std.proofs.Common.{◌≡◌, ℕ, zero, suc, ◌<◌, Bool, true, List, [], ◌∷◌, Contains, Option, Some, inl, inr, refl, sym, subst, arith}
use Rattle.std.specs.Prelude.{find, flat_map}
use Rattle.std.specs.List.{list_any, filter}
use Rattle.std.proofs.lemmas.Bool.{cases_eq, cond_both, or_cases}
use Rattle.std.proofs.lemmas.List.Elements.{All-contains, All-filter, All-contains_itself, filter_passes, Contains-append_left, Contains-append_right, Contains-append_cases}
use Rattle.std.proofs.lemmas.List.Folds.{Any-from_list_any, list_any-from_Any}
use Rattle.std.proofs.lemmas.Option.{same_Some}
use Rattle.list_laws.proofs.Each.{contains_later, contains_here}

-- what is found is there, and passes
pub found : {X : Type 0} (p : X → Bool) (xs : List X) (x : X) → find p xs ≡ Some x → Contains xs x × (p x ≡ true)
found p [] x e = absurd cc
found {X} p (y ∷ ys) x e =
    cond_both (p y) (Some y) (find p ys) (λ (o : Option X). o ≡ Some x → Contains (y ∷ ys) x × (p x ≡ true))
    (λ passes s. subst (λ (z : X). Contains (y ∷ ys) z × (p z ≡ true)) (same_Some y x s) (contains_here y ys, passes))
    (λ fails s. let later = found p ys x s in (contains_later y x ys later.0, later.1)) e

-- where some element passes, one is found
pub first_found : {X : Type 0} (p : X → Bool) (xs : List X) → list_any p xs ≡ true → (x : X) × (find p xs ≡ Some x)
first_found p [] e = absurd cc
first_found {X} p (y ∷ ys) e =
    cond_both (p y) (Some y) (find p ys) (λ (o : Option X). (x : X) × (o ≡ Some x))
    (λ passes. (y, refl))
    (λ fails. elim (or_cases (p y) (list_any p ys) e) [
      | inl passes ↦ absurd cc
      | inr later ↦ first_found p ys later
    ])

pub any_found : {X : Type 0} (p : X → Bool) (xs : List X) → list_any p xs ≡ true → (x : X) × Contains xs x × (p x ≡ true)
any_found p xs e = let any = Any-from_list_any p xs e in (any.1, (any.0, any.2, any.3), any.4)

pub any_there : {X : Type 0} (p : X → Bool) (xs : List X) (x : X) → Contains xs x → p x ≡ true → list_any p xs ≡ true
any_there p xs x here passes = list_any-from_Any p xs (here.0, x, here.1, here.2, passes)

-- what a filter keeps is there, and passes
pub filtered : {X : Type 0} (p : X → Bool) (xs : List X) (x : X) → Contains (filter p xs) x → Contains xs x × (p x ≡ true)
filtered p xs x here =
    (All-contains (Contains xs) (filter p xs) x (All-filter p (Contains xs) xs (All-contains_itself xs)) here, All-contains (λ y. p y ≡ true) (filter p xs) x (filter_passes p xs) here)

-- ---- lists of lists

pub flat_mapped : {X Y : Type 0} (f : X → List Y) (xs : List X) (y : Y) → Contains (flat_map f xs) y → (x : X) × Contains xs x × Contains (f x) y
flat_mapped f [] y here = absurd (omega (arith, here.1))
flat_mapped f (x ∷ xs) y here = elim (Contains-append_cases (f x) (flat_map f xs) y here) [
  | inl first ↦ (x, contains_here x xs, first)
  | inr later ↦ let rest = flat_mapped f xs y later in (rest.0, contains_later x rest.0 xs rest.1, rest.2)
]

pub contains_flat : {X Y : Type 0} (f : X → List Y) (xs : List X) (x : X) (y : Y) → Contains xs x → Contains (f x) y → Contains (flat_map f xs) y
contains_flat f [] x y here there = absurd (omega (arith, here.1))
contains_flat f (z ∷ zs) x y (zero, lt, is) there = Contains-append_left (f z) (flat_map f zs) y (subst (λ w. Contains (f w) y) (sym is) there)
contains_flat f (z ∷ zs) x y (suc k, lt, is) there = Contains-append_right (f z) (flat_map f zs) y (contains_flat f zs x y (k, omega (arith, lt), is) there)

-- ---- the numbers below a number

pub numbers : ℕ → List ℕ
numbers zero = []
numbers (suc n) = n ∷ numbers n

pub number_there : (n k : ℕ) → k < n → Contains (numbers n) k
unfolding numbers
number_there zero k lt = absurd (omega arith)
number_there (suc n) k lt = elim (cases_eq k n) [
  | inl same ↦ subst (λ (x : ℕ). Contains (n ∷ numbers n) x) (sym same) (contains_here n (numbers n))
  | inr other ↦ contains_later n k (numbers n) (number_there n k (omega (arith, lt, other)))
]

pub number_below : (n k : ℕ) → Contains (numbers n) k → k < n
unfolding numbers
number_below zero k here = absurd (omega (arith, here.1))
number_below (suc n) k (zero, lt, is) = omega (arith, is)
number_below (suc n) k (suc j, lt, is) = let below = number_below n k (j, omega (arith, lt), is) in omega (arith, below)
