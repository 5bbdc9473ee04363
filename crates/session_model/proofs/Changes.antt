-- Lists of which an element is changed at its place, or each by its number.
use Rattle.std.proofs.Common.{◌≡◌, ℕ, zero, suc, ◌+◌, ◌<◌, ◌≤◌, List, [], ◌∷◌, ◌++◌, take, drop, set, get_or, length, refl, ap, sym, ◌∙◌, add-one, add-zero, zero-add, arith}
use Rattle.session_model.specs.Lists.{changed_at, numbered}

-- At its place

set_changed_at : {X : Type 0} (f : X → X) (xs : List X) (k : ℕ) (d : X) → k < length xs → set xs k (f (get_or xs k d)) ≡ changed_at k f xs
set_changed_at f [] k d h = absurd (omega arith)
set_changed_at f (x ∷ xs) zero d h = refl
set_changed_at f (x ∷ xs) (suc k) d h = ap (λ ys. x ∷ ys) (set_changed_at f xs k d (omega arith))

pub set_changed : {X : Type 0} (f : X → X) (xs : List X) (k : ℕ) (d z : X) → k < length xs → z ≡ f (get_or xs k d) → set xs k z ≡ changed_at k f xs
set_changed f xs k d z h is = ap (λ y. set xs k y) is ∙ set_changed_at f xs k d h

-- nothing is changed behind the list
pub changed_past : {X : Type 0} (k : ℕ) (f : X → X) (xs : List X) → length xs ≤ k → changed_at k f xs ≡ xs
changed_past k f [] h = refl
changed_past zero f (x ∷ xs) h = absurd (omega arith)
changed_past (suc k) f (x ∷ xs) h = ap (λ ys. x ∷ ys) (changed_past k f xs (omega arith))

-- By their numbers

pub numbered_length : {X Y : Type 0} (f : ℕ → X → Y) (k : ℕ) (xs : List X) → length (numbered f k xs) ≡ length xs
numbered_length f k [] = refl
numbered_length f k (x ∷ xs) = ap suc (numbered_length f (k + 1) xs)

-- one more element is changed by a function of its number
numbered_more_suc : {X : Type 0} (f : ℕ → X → X) (n i : ℕ) (xs : List X) (d : X) → i < length xs → set (numbered f n (take i xs) ++ drop i xs) i (f (n + i) (get_or (numbered f n (take i xs) ++ drop i xs) i d)) ≡ numbered f n (take (suc i) xs) ++ drop (suc i) xs
numbered_more_suc f n zero [] d h = refl
numbered_more_suc f n zero (y ∷ ys) d h = ap (λ k. f k y ∷ ys) (add-zero n)
numbered_more_suc f n (suc i) [] d h = refl
numbered_more_suc {X = X} f n (suc i) (y ∷ ys) d h =
    let e : n + suc i ≡ (n + 1) + i = omega arith in
    let now : List X = numbered f (n + 1) (take i ys) ++ drop i ys in
    ap (λ zs. f n y ∷ zs) (ap (λ k. set now i (f k (get_or now i d))) e ∙ numbered_more_suc f (n + 1) i ys d (omega arith))

pub numbered_more : {X : Type 0} (f : ℕ → X → X) (i : ℕ) (xs now : List X) (d z : X) → now ≡ numbered f 0 (take i xs) ++ drop i xs → i < length xs → z ≡ f i (get_or now i d) → set now i z ≡ numbered f 0 (take (i + 1) xs) ++ drop (i + 1) xs
numbered_more f i xs now d z is h w =
    rw (w, is, add-one i)
    (ap (λ k. set (numbered f 0 (take i xs) ++ drop i xs) i (f k (get_or (numbered f 0 (take i xs) ++ drop i xs) i d))) (sym (zero-add i)) ∙ numbered_more_suc f 0 i xs d h)
