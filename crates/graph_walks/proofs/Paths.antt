-- Walks, and the tests by walks of bounded length.
use Rattle.std.proofs.Common.{◌≡◌, ℕ, zero, suc, ◌+◌, ◌<◌, ◌≤◌, Bool, true, false, ◌||◌, cond, List, [], ◌∷◌, ◌++◌, length, Contains, ◌⊎◌, inl, inr, arith, subst, sym, refl, zero-lt-suc, suc-le-suc, le_of_suc-le-suc, not-suc-le-zero}
use Rattle.std.specs.List.{list_any}
use Rattle.std.proofs.lemmas.Bool.{both_ways, or_cases, or_left, or_right, cases_lt}
use Rattle.graph_walks.specs.Walks.{IsPath, Reaches, IsBounded, within}
use Rattle.graph_walks.specs.Laws.{WalksSuffice, ClosedHoldsReached, ReachIsTransitive}

-- Membership, by recursion

pub any_contains : (test : ℕ → Bool) (xs : List ℕ) → list_any test xs ≡ true → (k : ℕ) × Contains xs k × (test k ≡ true)
any_contains test [] e = absurd (both_ways false refl e)
any_contains test (x ∷ xs) e = from_cases (or_cases (test x) (list_any test xs) e) (any_contains test xs)
  where
    from_cases : (test x ≡ true) ⊎ (list_any test xs ≡ true) → (list_any test xs ≡ true → (k : ℕ) × Contains xs k × (test k ≡ true)) → (k : ℕ) × Contains (x ∷ xs) k × (test k ≡ true)
    from_cases (inl a) later = (x, (0, zero-lt-suc (length xs), refl), a)
    from_cases (inr b) later = let p = later b in (p.0, (suc p.1.0, suc-le-suc p.1.1, p.1.2), p.2)

pub contains_any : (test : ℕ → Bool) (xs : List ℕ) (k : ℕ) → Contains xs k → test k ≡ true → list_any test xs ≡ true
contains_any test [] k c e = absurd (not-suc-le-zero c.1)
contains_any test (x ∷ xs) k (zero, b, is) e = or_left (test x) (list_any test xs) (subst (λ y. test y ≡ true) (sym is) e)
contains_any test (x ∷ xs) k (suc n, b, is) e = or_right (test x) (list_any test xs) (contains_any test xs k (n, le_of_suc-le-suc b, is) e)

any_more : (f g : ℕ → Bool) → ((k : ℕ) → f k ≡ true → g k ≡ true) → (xs : List ℕ) → list_any f xs ≡ true → list_any g xs ≡ true
any_more f g h [] e = e
any_more f g h (x ∷ xs) e = from_cases (or_cases (f x) (list_any f xs) e) (any_more f g h xs)
  where
    from_cases : (f x ≡ true) ⊎ (list_any f xs ≡ true) → (list_any f xs ≡ true → list_any g xs ≡ true) → list_any g (x ∷ xs) ≡ true
    from_cases (inl a) later = or_left (g x) (list_any g xs) (h x a)
    from_cases (inr b) later = or_right (g x) (list_any g xs) (later b)

-- Paths

pub reaches_self : (next : ℕ → List ℕ) (i : ℕ) → Reaches next i i
reaches_self next i = record { path = []; leads = refl }

pub reaches_next : (next : ℕ → List ℕ) (i k j : ℕ) → Contains (next i) k → Reaches next k j → Reaches next i j
reaches_next next i k j c r = record { path = k ∷ r.path; leads = (c, r.leads) }

path_joined : (next : ℕ → List ℕ) (i j k : ℕ) (p q : List ℕ) → IsPath next i p j → IsPath next j q k → IsPath next i (p ++ q) k
path_joined next i j k [] q e f = subst (λ x. IsPath next x q k) (sym e) f
path_joined next i j k (n ∷ ns) q e f = (e.0, path_joined next n j k ns q e.1 f)

pub reach_is_transitive : ReachIsTransitive
reach_is_transitive next i j k r s = record { path = r.path ++ s.path; leads = path_joined next i j k r.path s.path r.leads s.leads }

closed_path : (next : ℕ → List ℕ) (P : ℕ → Type 0) → ((i k : ℕ) → P i → Contains (next i) k → P k) → (i j : ℕ) (p : List ℕ) → P i → IsPath next i p j → P j
closed_path next P c i j [] a e = subst P e a
closed_path next P c i j (k ∷ ks) a e = closed_path next P c k j ks (c i k a e.0) e.1

pub closed_reached : (next : ℕ → List ℕ) (P : ℕ → Type 0) → ((i k : ℕ) → P i → Contains (next i) k → P k) → (i j : ℕ) → P i → Reaches next i j → P j
closed_reached next P c i j a r = closed_path next P c i j r.path a r.leads

pub closed_holds_reached : ClosedHoldsReached
closed_holds_reached next set c i j a r = closed_path next (λ k. set k ≡ true) c i j r.path a r.leads

-- Walks

within_sound : (n : ℕ) (next : ℕ → List ℕ) (test : ℕ → Bool) (i : ℕ) → within n next test i ≡ true → (j : ℕ) × Reaches next i j × (test j ≡ true)
unfolding within
within_sound zero next test i e = (i, reaches_self next i, e)
within_sound (suc n) next test i e = from_cases (or_cases (test i) (list_any (within n next test) (next i)) e) (within_sound n next test)
  where
    from_cases : (test i ≡ true) ⊎ (list_any (within n next test) (next i) ≡ true) → ((k : ℕ) → within n next test k ≡ true → (j : ℕ) × Reaches next k j × (test j ≡ true)) → (j : ℕ) × Reaches next i j × (test j ≡ true)
    from_cases (inl a) later = (i, reaches_self next i, a)
    from_cases (inr b) later =
        let k = any_contains (within n next test) (next i) b in
        let p = later k.0 k.2 in
        (p.0, reaches_next next i k.0 p.0 k.1 p.1, p.2)

pub within_zero : (next : ℕ → List ℕ) (test : ℕ → Bool) (i : ℕ) → within 0 next test i ≡ test i
unfolding within
within_zero next test i = refl

pub within_base : (n : ℕ) (next : ℕ → List ℕ) (test : ℕ → Bool) (i : ℕ) → test i ≡ true → within n next test i ≡ true
unfolding within
within_base zero next test i e = e
within_base (suc n) next test i e = or_left (test i) (list_any (within n next test) (next i)) e

within_more : (n : ℕ) (next : ℕ → List ℕ) (test : ℕ → Bool) (i : ℕ) → within n next test i ≡ true → within (suc n) next test i ≡ true
unfolding within
within_more zero next test i e = within_base 1 next test i e
within_more (suc n) next test i e = from_cases (or_cases (test i) (list_any (within n next test) (next i)) e) (within_more n next test)
  where
    from_cases : (test i ≡ true) ⊎ (list_any (within n next test) (next i) ≡ true) → ((k : ℕ) → within n next test k ≡ true → within (suc n) next test k ≡ true) → within (suc (suc n)) next test i ≡ true
    from_cases (inl a) later = or_left (test i) (list_any (within (suc n) next test) (next i)) a
    from_cases (inr b) later = or_right (test i) (list_any (within (suc n) next test) (next i)) (any_more (within n next test) (within (suc n) next test) later (next i) b)

-- one step more finds nothing more
abbrev Stable : ℕ → (ℕ → List ℕ) → (ℕ → Bool) → Type 0
Stable n next test = (i : ℕ) → within (suc n) next test i ≡ true → within n next test i ≡ true

stable_next : (n : ℕ) (next : ℕ → List ℕ) (test : ℕ → Bool) → Stable n next test → Stable (suc n) next test
unfolding within
stable_next n next test s i e = from_cases (or_cases (test i) (list_any (within (suc n) next test) (next i)) e)
  where
    from_cases : (test i ≡ true) ⊎ (list_any (within (suc n) next test) (next i) ≡ true) → within (suc n) next test i ≡ true
    from_cases (inl a) = or_left (test i) (list_any (within n next test) (next i)) a
    from_cases (inr b) = or_right (test i) (list_any (within n next test) (next i)) (any_more (within (suc n) next test) (within n next test) s (next i) b)

-- how many numbers below n pass
count_below : ℕ → (ℕ → Bool) → ℕ
count_below zero f = 0
count_below (suc n) f = count_below n f + cond (f n) 1 0

one_more : (a b : Bool) → (a ≡ true → b ≡ true) → cond a 1 0 ≤ cond b 1 0
one_more true true h = omega arith
one_more true false h = absurd (both_ways false refl (h refl))
one_more false true h = omega arith
one_more false false h = omega arith

count_grows : (n : ℕ) (f g : ℕ → Bool) → ((i : ℕ) → f i ≡ true → g i ≡ true) → count_below n f ≤ count_below n g
unfolding count_below
count_grows zero f g h = omega arith
count_grows (suc n) f g h = omega (arith, count_grows n f g h, one_more (f n) (g n) (h n))

count_all : (n : ℕ) → count_below n (λ i. true) ≡ n
unfolding count_below
count_all zero = refl
count_all (suc n) = omega (arith, count_all n)

gained : (a b : Bool) → cond b 1 0 ≤ cond a 1 0 → b ≡ true → a ≡ true
gained true b h e = refl
gained false true h e = absurd (omega (arith, h))
gained false false h e = e

count_same : (n : ℕ) (f g : ℕ → Bool) → ((i : ℕ) → f i ≡ true → g i ≡ true) → count_below n g ≤ count_below n f → (i : ℕ) → i < n → g i ≡ true → f i ≡ true
unfolding count_below
count_same zero f g h le i b e = absurd (not-suc-le-zero b)
count_same (suc n) f g h le i b e = from_cases (cases_lt i n) (count_same n f g h (omega (arith, le, count_grows n f g h, one_more (f n) (g n) (h n))) i)
  where
    last : g n ≡ true → f n ≡ true
    last = gained (f n) (g n) (omega (arith, le, count_grows n f g h))

    from_cases : (i < n) ⊎ (n ≤ i) → (i < n → g i ≡ true → f i ≡ true) → f i ≡ true
    from_cases (inl lt) later = later lt e
    from_cases (inr ge) later = let is : n ≡ i = omega (arith, ge, b) in subst (λ k. f k ≡ true) is (last (subst (λ k. g k ≡ true) (sym is) e))

past_step : (n size : ℕ) (next : ℕ → List ℕ) (test : ℕ → Bool) → IsBounded size next → (i : ℕ) → size ≤ i → within (suc n) next test i ≡ true → within n next test i ≡ true
unfolding within
past_step n size next test bounded i h e = from_cases (or_cases (test i) (list_any (within n next test) []) (subst (λ ds. (test i || list_any (within n next test) ds) ≡ true) (bounded i h) e))
  where
    from_cases : (test i ≡ true) ⊎ (false ≡ true) → within n next test i ≡ true
    from_cases (inl a) = within_base n next test i a
    from_cases (inr b) = absurd (both_ways false refl b)

grown_or_stable : (n size : ℕ) (next : ℕ → List ℕ) (test : ℕ → Bool) → IsBounded size next → (n ≤ count_below size (within n next test)) ⊎ Stable n next test
grown_or_stable zero size next test bounded = inl (omega arith)
grown_or_stable (suc n) size next test bounded = from_cases (grown_or_stable n size next test bounded)
  where
    sizes : (n ≤ count_below size (within n next test)) → (count_below size (within n next test) < count_below size (within (suc n) next test)) ⊎ (count_below size (within (suc n) next test) ≤ count_below size (within n next test)) → (suc n ≤ count_below size (within (suc n) next test)) ⊎ Stable (suc n) next test
    sizes a (inl lt) = inl (omega (arith, a, lt))
    sizes a (inr ge) = inr (stable_next n next test (λ i e. below i e (cases_lt i size)))
      where
        below : (i : ℕ) → within (suc n) next test i ≡ true → (i < size) ⊎ (size ≤ i) → within n next test i ≡ true
        below i e (inl b) = count_same size (within n next test) (within (suc n) next test) (within_more n next test) ge i b e
        below i e (inr p) = past_step n size next test bounded i p e

    from_cases : (n ≤ count_below size (within n next test)) ⊎ Stable n next test → (suc n ≤ count_below size (within (suc n) next test)) ⊎ Stable (suc n) next test
    from_cases (inl a) = sizes a (cases_lt (count_below size (within n next test)) (count_below size (within (suc n) next test)))
    from_cases (inr s) = inr (stable_next n next test s)

all_stable : (size : ℕ) (next : ℕ → List ℕ) (test : ℕ → Bool) → IsBounded size next → Stable size next test
all_stable size next test bounded = from_cases (grown_or_stable size size next test bounded)
  where
    from_cases : (size ≤ count_below size (within size next test)) ⊎ Stable size next test → Stable size next test
    from_cases (inr s) = s
    from_cases (inl a) = λ i e. below i e (cases_lt i size)
      where
        below : (i : ℕ) → within (suc size) next test i ≡ true → (i < size) ⊎ (size ≤ i) → within size next test i ≡ true
        below i e (inl b) = count_same size (within size next test) (λ k. true) (λ k f. refl) (omega (arith, a, count_all size)) i b refl
        below i e (inr p) = past_step size size next test bounded i p e

path_within : (size : ℕ) (next : ℕ → List ℕ) (test : ℕ → Bool) → IsBounded size next → (i j : ℕ) (p : List ℕ) → IsPath next i p j → test j ≡ true → within size next test i ≡ true
unfolding within
path_within size next test bounded i j [] e t = within_base size next test i (subst (λ k. test k ≡ true) (sym e) t)
path_within size next test bounded i j (k ∷ ks) e t = all_stable size next test bounded i (or_right (test i) (list_any (within size next test) (next i)) (contains_any (within size next test) (next i) k e.0 (path_within size next test bounded k j ks e.1 t)))

pub walks_suffice : WalksSuffice
walks_suffice size next test i bounded = (within_sound size next test i, λ p. path_within size next test bounded i p.0 p.1.path p.1.leads p.2)
