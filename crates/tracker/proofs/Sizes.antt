-- How many nodes are of each tracker.
use Rattle.std.proofs.Common.{◌≡◌, ℕ, suc, ◌+◌, ◌*◌, ◌^◌, ◌<◌, ◌≤◌, ◌⊎◌, inl, inr, Bool, true, false, List, [], ◌∷◌, ◌++◌, length, refl, ap, sym, ◌∙◌, arith, pow-add}
use Rattle.std.specs.Bool.{if◌then◌else◌}
use Rattle.std.specs.Prelude.{map, ◌==◌}
use Rattle.std.proofs.lemmas.Bool.{cases_lt, eqb-true, eq-eqb, ne_eqb}
use Rattle.std.proofs.lemmas.Nat.{pow_below}
use Rattle.tracker.specs.Holders.{tree_size}

abbrev counted : Bool → ℕ
counted b = if b then 1 else 0

-- the label of the one is the other's now
abbrev pub relabel : ℕ → ℕ → ℕ → ℕ
relabel from to t = if t == from then to else t

-- one more node
pub size_push : (labels : List ℕ) (l t : ℕ) → tree_size (labels ++ l ∷ []) t ≡ tree_size labels t + counted (l == t)
size_push [] l t = omega arith
size_push (k ∷ labels) l t = by (k == t) (l == t) (size_push labels l t)
  where
    by : (c d : Bool) → tree_size (labels ++ l ∷ []) t ≡ tree_size labels t + counted d → counted c + tree_size (labels ++ l ∷ []) t ≡ (counted c + tree_size labels t) + counted d
    by c true e = omega (arith, e)
    by c false e = omega (arith, e)

pub size_grows : (labels : List ℕ) (l t : ℕ) → tree_size labels t ≤ tree_size (labels ++ l ∷ []) t
size_grows labels l t = omega (arith, size_push labels l t)

pub size_counts : (labels : List ℕ) (l : ℕ) → 1 ≤ tree_size (labels ++ l ∷ []) l
size_counts labels l = omega (arith, size_push labels l l, ap counted (eq-eqb l l refl))

-- two trackers have no node in common
pub sizes_fit : (labels : List ℕ) (s t : ℕ) → (s ≡ t → ⊥) → tree_size labels s + tree_size labels t ≤ length labels
sizes_fit [] s t apart = omega arith
sizes_fit (l ∷ labels) s t apart = by (sizes_fit labels s t apart) (l == s) (l == t) refl refl
  where
    by : tree_size labels s + tree_size labels t ≤ length labels → (c d : Bool) → (l == s) ≡ c → (l == t) ≡ d → (counted c + tree_size labels s) + (counted d + tree_size labels t) ≤ suc (length labels)
    by rest true true e f = absurd (apart (sym (eqb-true l s e) ∙ eqb-true l t f))
    by rest true false e f = omega (arith, rest)
    by rest false true e f = omega (arith, rest)
    by rest false false e f = omega (arith, rest)

-- the nodes of both
pub sizes_join : (labels : List ℕ) (from to : ℕ) → (from ≡ to → ⊥) → tree_size (map (relabel from to) labels) to ≡ tree_size labels from + tree_size labels to
sizes_join [] from to apart = refl
sizes_join (l ∷ labels) from to apart = by (sizes_join labels from to apart) (l == from) refl
  where
    by : tree_size (map (relabel from to) labels) to ≡ tree_size labels from + tree_size labels to → (c : Bool) → (l == from) ≡ c → counted ((if c then to else l) == to) + tree_size (map (relabel from to) labels) to ≡ (counted c + tree_size labels from) + (counted (l == to) + tree_size labels to)
    by rest true e =
        let here : counted (to == to) ≡ 1 = ap counted (eq-eqb to to refl) in
        let other : counted (l == to) ≡ 0 = ap counted (ne_eqb l to (λ s. apart (sym (eqb-true l from e) ∙ s))) in
        omega (arith, rest, here, other)
    by rest false e = omega (arith, rest)

-- those of others
pub sizes_stay : (labels : List ℕ) (from to t : ℕ) → (t ≡ from → ⊥) → (t ≡ to → ⊥) → tree_size (map (relabel from to) labels) t ≡ tree_size labels t
sizes_stay [] from to t a b = refl
sizes_stay (l ∷ labels) from to t a b = by (sizes_stay labels from to t a b) (l == from) refl
  where
    by : tree_size (map (relabel from to) labels) t ≡ tree_size labels t → (c : Bool) → (l == from) ≡ c → counted ((if c then to else l) == t) + tree_size (map (relabel from to) labels) t ≡ counted (l == t) + tree_size labels t
    by rest true e =
        let moved : counted (to == t) ≡ 0 = ap counted (ne_eqb to t (λ s. b (sym s))) in
        let was : counted (l == t) ≡ 0 = ap counted (ne_eqb l t (λ s. a (sym s ∙ eqb-true l from e))) in
        omega (arith, rest, moved, was)
    by rest false e = omega (arith, rest)

-- a power of two and itself
pub doubled : (k : ℕ) → 2 ^ (k + 1) ≡ 2 ^ k + 2 ^ k
doubled k = let e : 2 ^ (k + 1) ≡ 2 ^ k * 2 ^ 1 = pow-add 2 k 1 in omega (arith, e)

-- a tree of so few nodes is no higher
pub few_are_low : (k : ℕ) → 2 ^ k + 2 ^ k ≤ 65536 → k + 1 < 17
few_are_low k few = by (cases_lt k 16)
  where
    by : (k < 16) ⊎ (16 ≤ k) → k + 1 < 17
    by (inl b) = omega (arith, b)
    by (inr b) = absurd (high (cases_lt 16 k))
      where
        high : (16 < k) ⊎ (k ≤ 16) → ⊥
        high (inl c) = omega (arith, few, pow_below 16 k c)
        high (inr c) = let is : k ≡ 16 = omega (arith, b, c) in omega (arith, few, ap (λ n. 2 ^ n) is)
