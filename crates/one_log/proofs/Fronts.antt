-- Two lists that agree as far as both are known.
use Rattle.std.proofs.Common.{◌≡◌, ℕ, zero, suc, ◌<◌, List, [], ◌∷◌, ◌++◌, length, take, ◌⊎◌, inl, inr, refl, sym, ap, ap₂, ◌∙◌, arith}
use Rattle.std.proofs.lemmas.List.{length-append}

-- They are equal; or both have more than m elements, and the first m are the same.
abbrev pub Same : {X : Type 0} → ℕ → List X → List X → Type 0
Same m f g = (f ≡ g) ⊎ ((m < length f) × (m < length g) × (take m f ≡ take m g))

pub same_far : {X : Type 0} (x y : X) (f g : List X) → Same zero (x ∷ f) (y ∷ g)
same_far x y f g = inr (omega arith, omega arith, refl)

pub same_cons : {X : Type 0} (m : ℕ) (x y : X) (f g : List X) → x ≡ y → Same m f g → Same (suc m) (x ∷ f) (y ∷ g)
same_cons m x y f g e (inl p) = inl (ap₂ (λ z l. z ∷ l) e p)
same_cons m x y f g e (inr p) = inr (omega (arith, p.0), omega (arith, p.1), ap₂ (λ z l. z ∷ l) e p.2)

-- what is left of m after these
abbrev pub left : {X : Type 0} → ℕ → List X → ℕ
left m [] = m
left zero (x ∷ xs) = zero
left (suc m) (x ∷ xs) = left m xs

-- the first of two parts has more
pub same_inside : {X : Type 0} (m : ℕ) (f g f' g' : List X) → (m < length f) × (m < length g) × (take m f ≡ take m g) → Same m (f ++ f') (g ++ g')
same_inside m f g f' g' p = inr (omega (arith, p.0, length-append f f'), omega (arith, p.1, length-append g g'), short m f f' p.0 ∙ (p.2 ∙ sym (short m g g' p.1)))
  where
    short : {X : Type 0} (m : ℕ) (xs ys : List X) → m < length xs → take m (xs ++ ys) ≡ take m xs
    short m [] ys b = absurd (omega (arith, b))
    short zero (x ∷ xs) ys b = refl
    short (suc m) (x ∷ xs) ys b = ap (λ l. x ∷ l) (short m xs ys (omega (arith, b)))

-- the first parts are the same
pub same_behind : {X : Type 0} (m : ℕ) (f f' g' : List X) → Same (left m f) f' g' → Same m (f ++ f') (f ++ g')
same_behind m [] f' g' p = p
same_behind zero (x ∷ f) f' g' p = same_far x x (f ++ f') (f ++ g')
same_behind (suc m) (x ∷ f) f' g' p = same_cons m x x (f ++ f') (f ++ g') refl (same_behind m f f' g' p)

pub same_turned : {X : Type 0} (m : ℕ) (f g : List X) → Same m f g → Same m g f
same_turned m f g (inl p) = inl (sym p)
same_turned m f g (inr p) = inr (p.1, p.0, sym p.2)
