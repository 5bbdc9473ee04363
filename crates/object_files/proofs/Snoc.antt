-- Facts about the items of lists by their places, when one item more is appended.
use Rattle.std.proofs.Common.{◌≡◌, ℕ, zero, suc, List, [], ◌∷◌, ◌++◌, length, Some, refl, ap, subst, inl, inr, arith}
use Rattle.std.specs.Prelude.{slice_get, ◌⊎◌}
use Rattle.std.proofs.lemmas.Option.{none-some, same_Some, slice_get_within}

-- an item of the longer list is one of the shorter, or the last
pub item_of_snoc : {X : Type 0} (xs : List X) (x y : X) (k : ℕ) → slice_get (xs ++ x ∷ []) k ≡ Some y → (slice_get xs k ≡ Some y) ⊎ ((length xs ≡ k) × (x ≡ y))
item_of_snoc [] x y zero h = inr (refl, same_Some x y h)
item_of_snoc [] x y (suc k) h = absurd (none-some y h)
item_of_snoc (z ∷ xs) x y zero h = inl h
item_of_snoc (z ∷ xs) x y (suc k) h = elim (item_of_snoc xs x y k h) [
  | inl old ↦ inl old
  | inr last ↦ inr (ap suc last.0, last.1)
]

-- what holds of each item with its place
pub each_snoc : {X : Type 0} (P : ℕ → X → Type 0) (xs : List X) (x : X) → ((k : ℕ) (y : X) → slice_get xs k ≡ Some y → P k y) → P (length xs) x → (k : ℕ) (y : X) → slice_get (xs ++ x ∷ []) k ≡ Some y → P k y
each_snoc {X} P xs x before last k y h = elim (item_of_snoc xs x y k h) [
  | inl old ↦ before k y old
  | inr new ↦ subst (λ (n : ℕ). P n y) new.0 (subst (λ (z : X). P (length xs) z) new.1 last)
]

-- what holds of the items at each place of two lists
pub both_snoc : {X Y : Type 0} (P : ℕ → X → Y → Type 0) (xs : List X) (ys : List Y) (x : X) (y : Y) → length xs ≡ length ys →
    ((k : ℕ) (a : X) (b : Y) → slice_get xs k ≡ Some a → slice_get ys k ≡ Some b → P k a b) → P (length xs) x y →
    (k : ℕ) (a : X) (b : Y) → slice_get (xs ++ x ∷ []) k ≡ Some a → slice_get (ys ++ y ∷ []) k ≡ Some b → P k a b
both_snoc {X} {Y} P xs ys x y same before last k a b first second = elim (item_of_snoc xs x a k first) [
  | inl old ↦ elim (item_of_snoc ys y b k second) [
    | inl other ↦ before k a b old other
    | inr new ↦ absurd (let lt = slice_get_within xs k a old in omega (arith, new.0, lt, same))
  ]
  | inr new ↦ elim (item_of_snoc ys y b k second) [
    | inl other ↦ absurd (let lt = slice_get_within ys k b other in omega (arith, new.0, lt, same))
    | inr too ↦ subst (λ (n : ℕ). P n a b) new.0 (subst (λ (z : Y). P (length xs) a z) too.1 (subst (λ (z : X). P (length xs) z y) new.1 last))
  ]
]

-- an item stays where it is
pub stays_in_snoc : {X : Type 0} (xs : List X) (x y : X) (k : ℕ) → slice_get xs k ≡ Some y → slice_get (xs ++ x ∷ []) k ≡ Some y
stays_in_snoc [] x y k h = absurd (none-some y h)
stays_in_snoc (z ∷ xs) x y zero h = h
stays_in_snoc (z ∷ xs) x y (suc k) h = stays_in_snoc xs x y k h
