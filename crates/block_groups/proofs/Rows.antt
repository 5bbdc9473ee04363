-- A list for each number: what is read of it, and what one element more changes.
use Rattle.std.proofs.Common.{◌≡◌, ℕ, zero, suc, ◌+◌, ◌<◌, List, [], ◌∷◌, ◌++◌, length, map, take, get_or, set, refl, ap, subst, ◌∙◌, ◌⊎◌, inl, inr, arith}
use Rattle.std.specs.Prelude.{Contains, zip}
use Rattle.std.proofs.lemmas.Bool.{cases_eq, eq-eqb, ne_eqb}
use Rattle.std.proofs.lemmas.List.{map-set, length-set, length-map}
use Rattle.list_laws.proofs.Lists.{get_or-set}
use Rattle.block_groups.specs.Lists.{row, IsPushed}

pub row_read : {X Y : Type 0} (f : X → List Y) (xs : List X) (k : ℕ) (x : X) → k < length xs → x ≡ get_or xs k x → f x ≡ row (map f xs) k
row_read f [] k x lt is = absurd (omega arith)
row_read f (y ∷ ys) zero x lt is = ap f is
row_read f (y ∷ ys) (suc k) x lt is = row_read f ys k x (omega arith) is

pub pushed : {X Y : Type 0} (f : X → List Y) (xs : List X) (k : ℕ) (x w : X) (y : Y) → k < length xs → x ≡ get_or xs k x → f w ≡ f x ++ y ∷ [] → IsPushed (map f xs) k y (map f (set xs k w))
pushed {X} {Y} f xs k x w y lt is e = record {
  whole = ap (λ (ls : List (List Y)). length ls) (map-set f xs k w) ∙ length-set (map f xs) k (f w);
  rows = λ j.
      ap (λ (ls : List (List Y)). row ls j) (map-set f xs k w)
      ∙ get_or-set (map f xs) k j (f w) [] (omega (arith, length-map xs f, lt))
      ∙ elim (cases_eq k j) [
        | inl same ↦ rw (eq-eqb k j same) (e ∙ ap (λ (zs : List Y). zs ++ y ∷ []) (row_read f xs k x lt is ∙ ap (row (map f xs)) same))
        | inr other ↦ rw (ne_eqb k j other) refl
      ];
}

-- the same of the lists as they are seen
pub pushed_to : {X Y : Type 0} (f : X → List Y) (xs : List X) (old : List (List Y)) (k : ℕ) (x w : X) (y : Y) → map f xs ≡ old → k < length old → x ≡ get_or xs k x → f w ≡ f x ++ y ∷ [] → IsPushed old k y (map f (set xs k w))
pushed_to {X} {Y} f xs old k x w y seen lt is e =
    let count = ap (λ (ls : List (List Y)). length ls) seen in
    subst (λ (ls : List (List Y)). IsPushed ls k y (map f (set xs k w))) seen (pushed f xs k x w y (omega (arith, lt, count, length-map xs f)) is e)

-- ---- elements

pub contains_cases : {X : Type 0} (x y : X) (xs : List X) → Contains (x ∷ xs) y → (x ≡ y) ⊎ Contains xs y
contains_cases x y xs (zero, lt, is) = inl is
contains_cases x y xs (suc k, lt, is) = inr (k, omega (arith, lt), is)

pub contains_none : {X : Type 0} (y : X) → Contains [] y → {A : Type 0} → A
contains_none y (k, lt, is) = absurd (omega (arith, lt))

pub length_push : {X : Type 0} (xs : List X) (x : X) → length (xs ++ x ∷ []) ≡ suc (length xs)
length_push [] x = refl
length_push (y ∷ ys) x = ap suc (length_push ys x)

zip_next : {X Y : Type 0} (xs : List X) (ys : List Y) (k : ℕ) (d : X) (e : Y) → k < length xs → k < length ys → zip (take (suc k) xs) (take (suc k) ys) ≡ zip (take k xs) (take k ys) ++ (get_or xs k d, get_or ys k e) ∷ []
zip_next [] ys k d e p q = absurd (omega arith)
zip_next (x ∷ xs) [] k d e p q = absurd (omega arith)
zip_next (x ∷ xs) (y ∷ ys) zero d e p q = refl
zip_next {X} {Y} (x ∷ xs) (y ∷ ys) (suc k) d e p q = ap (λ (ps : List (X × Y)). (x, y) ∷ ps) (zip_next xs ys k d e (omega (arith, p)) (omega (arith, q)))

-- one pair more
pub zip_more : {X Y : Type 0} (xs : List X) (ys : List Y) (k : ℕ) (d : X) (e : Y) → k < length xs → k < length ys → zip (take (k + 1) xs) (take (k + 1) ys) ≡ zip (take k xs) (take k ys) ++ (get_or xs k d, get_or ys k e) ∷ []
zip_more xs ys k d e p q =
    let more : k + 1 ≡ suc k = omega arith in
    ap (λ (n : ℕ). zip (take n xs) (take n ys)) more ∙ zip_next xs ys k d e p q

-- one empty list more
pub empty_push : {X Y : Type 0} (f : X → List Y) (xs : List X) (x : X) (k : ℕ) → f x ≡ [] → ((j : ℕ) → row (map f xs) j ≡ []) → row (map f (xs ++ x ∷ [])) k ≡ []
empty_push f [] x zero e h = e
empty_push f [] x (suc k) e h = refl
empty_push f (y ∷ ys) x zero e h = h 0
empty_push f (y ∷ ys) x (suc k) e h = empty_push f ys x k e (λ j. h (suc j))
