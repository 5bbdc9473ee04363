-- Lists of which a stretch is changed.
use Rattle.std.proofs.Common.{◌≡◌, ℕ, zero, suc, ◌+◌, ◌<◌, ◌≤◌, map, List, [], ◌∷◌, ◌++◌, take, drop, length, slice_get, arith, sym, refl, ap, ap₂, ◌∙◌, Some, add-zero}
use Rattle.session_model.specs.Lists.{numbered}

-- where nothing changes below a place, or nothing from it on
pub none_below : {X : Type 0} (f : X → X) (k : ℕ) (xs : List X) → ((i : ℕ) (x : X) → slice_get xs i ≡ Some x → i < k → f x ≡ x) → xs ≡ map f (take k xs) ++ drop k xs
none_below f zero [] h = refl
none_below f zero (x ∷ xs) h = refl
none_below f (suc k) [] h = refl
none_below f (suc k) (x ∷ xs) h = ap₂ (λ y ys. y ∷ ys) (sym (h 0 x refl (omega arith))) (none_below f k xs (λ i y e b. h (suc i) y e (omega (arith, b))))

none_all : {X : Type 0} (f : X → X) (xs : List X) → ((i : ℕ) (x : X) → slice_get xs i ≡ Some x → f x ≡ x) → xs ≡ map f xs
none_all f [] h = refl
none_all f (x ∷ xs) h = ap₂ (λ y ys. y ∷ ys) (sym (h 0 x refl)) (none_all f xs (λ i y e. h (suc i) y e))

pub none_above : {X : Type 0} (f : X → X) (k : ℕ) (xs : List X) → ((i : ℕ) (x : X) → slice_get xs i ≡ Some x → k ≤ i → f x ≡ x) → map f (take k xs) ++ drop k xs ≡ map f xs
none_above f zero [] h = refl
none_above f zero (x ∷ xs) h = ap₂ (λ y ys. y ∷ ys) (sym (h 0 x refl (omega arith))) (none_all f xs (λ i y e. h (suc i) y e (omega arith)))
none_above f (suc k) [] h = refl
none_above f (suc k) (x ∷ xs) h = ap (λ ys. f x ∷ ys) (none_above f k xs (λ i y e b. h (suc i) y e (omega (arith, b))))

-- the next one is as it was
pub still_there : {X : Type 0} (f : X → X) (i : ℕ) (xs now : List X) → now ≡ map f (take i xs) ++ drop i xs → slice_get now i ≡ slice_get xs i
still_there f i xs now is = ap (λ l. slice_get l i) is ∙ by_number i xs
  where
    by_number : (i : ℕ) (xs : List _) → slice_get (map f (take i xs) ++ drop i xs) i ≡ slice_get xs i
    by_number zero xs = refl
    by_number (suc i) [] = refl
    by_number (suc i) (x ∷ xs) = by_number i xs

pub mapped_within : {X : Type 0} (f : X → X) (i : ℕ) (xs : List X) → length (map f (take i xs) ++ drop i xs) ≡ length xs
mapped_within f zero xs = refl
mapped_within f (suc i) [] = refl
mapped_within f (suc i) (x ∷ xs) = ap suc (mapped_within f i xs)

pub none_numbered : {X : Type 0} (f : ℕ → X → X) (n i : ℕ) (xs : List X) → ((j : ℕ) (x : X) → j < i → slice_get xs j ≡ Some x → f (n + j) x ≡ x) → xs ≡ numbered f n (take i xs) ++ drop i xs
none_numbered f n zero xs h = refl
none_numbered f n (suc i) [] h = refl
none_numbered f n (suc i) (x ∷ xs) h =
    ap (λ y. y ∷ xs) (sym (ap (λ k. f k x) (sym (add-zero n)) ∙ h 0 x (omega arith) refl))
    ∙ ap (λ l. f n x ∷ l) (none_numbered f (n + 1) i xs (λ j y b t. ap (λ k. f k y) (omega arith) ∙ h (suc j) y (omega (arith, b)) t))

pub all_numbered : {X : Type 0} (f : ℕ → X → X) (n i : ℕ) (xs : List X) → ((j : ℕ) (x : X) → i ≤ j → slice_get xs j ≡ Some x → f (n + j) x ≡ x) → numbered f n (take i xs) ++ drop i xs ≡ numbered f n xs
all_numbered f n zero [] h = refl
all_numbered f n zero (x ∷ xs) h =
    ap (λ y. y ∷ xs) (sym (ap (λ k. f k x) (sym (add-zero n)) ∙ h 0 x (omega arith) refl))
    ∙ ap (λ l. f n x ∷ l) (all_numbered f (n + 1) zero xs (λ j y b t. ap (λ k. f k y) (omega arith) ∙ h (suc j) y (omega arith) t))
all_numbered f n (suc i) [] h = refl
all_numbered f n (suc i) (x ∷ xs) h = ap (λ l. f n x ∷ l) (all_numbered f (n + 1) i xs (λ j y b t. ap (λ k. f k y) (omega arith) ∙ h (suc j) y (omega (arith, b)) t))

pub drop_past : {X : Type 0} (k : ℕ) (xs : List X) → length xs ≤ k → drop k xs ≡ []
drop_past zero [] h = refl
drop_past zero (x ∷ xs) h = absurd (omega (arith, h))
drop_past (suc k) [] h = refl
drop_past (suc k) (x ∷ xs) h = drop_past k xs (omega (arith, h))
