-- Members of lists of instances.
use Rattle.std.proofs.Common.{◌≡◌, ℕ, zero, suc, true, false, ◌==◌, List, [], ◌∷◌, length, Contains, ◌⊎◌, inl, inr, refl, ap, zero-lt-suc, suc-le-suc, le_of_suc-le-suc, not-suc-le-zero}
use Rattle.std.proofs.lemmas.Bool.{both_ways, or_cases, or_left, or_right, eqb-true, eq-eqb}
use Rattle.orc_ids.specs.declared.ids.InstId.{InstId}
use Rattle.instances.specs.Table.{is_among}

pub among_contains : (items : List InstId) (i : ℕ) → is_among items i ≡ true → Contains items (record { 0 = i })
among_contains [] i e = absurd (both_ways false refl e)
among_contains (x ∷ xs) i e = from_cases (or_cases (x.0 == i) (is_among xs i) e) (among_contains xs i)
  where
    from_cases : ((x.0 == i) ≡ true) ⊎ (is_among xs i ≡ true) → (is_among xs i ≡ true → Contains xs (record { 0 = i })) → Contains (x ∷ xs) (record { 0 = i })
    from_cases (inl a) later = (0, zero-lt-suc (length xs), ap (λ (n : ℕ). record { 0 = n }) (eqb-true x.0 i a))
    from_cases (inr b) later = let p = later b in (suc p.0, suc-le-suc p.1, p.2)

pub contains_among : (items : List InstId) (m : InstId) → Contains items m → is_among items m.0 ≡ true
contains_among [] m c = absurd (not-suc-le-zero c.1)
contains_among (x ∷ xs) m (zero, b, is) = or_left (x.0 == m.0) (is_among xs m.0) (eq-eqb x.0 m.0 (ap (λ (j : InstId). j.0) is))
contains_among (x ∷ xs) m (suc n, b, is) = or_right (x.0 == m.0) (is_among xs m.0) (contains_among xs m (n, le_of_suc-le-suc b, is))

pub not_among : (items : List InstId) (i : ℕ) → is_among items i ≡ false → Contains items (record { 0 = i }) → ⊥
not_among items i e c = both_ways (is_among items i) e (contains_among items (record { 0 = i }) c)
