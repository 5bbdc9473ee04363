-- What a write to one place does to a table.
use Rattle.std.proofs.Common.{◌≡◌, ◌≢◌, ℕ, Bool, true, false, Option, Some, None, ◌<◌, ⊎_elim, if◌then◌else◌, cond, ◌==◌, List, [], ◌∷◌, length, slice_set, get_or, ◌≤◌, zero, suc, ap, sym, subst, ◌∙◌, refl, arith, add-one}
use Rattle.std.specs.Prelude.{slice_get, unwrap_or, ◌+◌, ◌-◌, ◌^◌}
use Rattle.std.proofs.lemmas.Bool.{both_ways}
use Rattle.std.proofs.lemmas.Bool.Decides.{eqb_tells}
use Rattle.std.proofs.lemmas.Option.{slice_get_read, slice_get_past, none-some}
use Rattle.dep_groups.specs.Slots.{content_of}
use Rattle.dep_groups.specs.Places.{within_place, place, is_set, unset}

pub set_here : {X : Type 0} (xs : List X) (k : ℕ) (x : X) → k < length xs → slice_get (slice_set xs k x) k ≡ Some x
set_here [] k x less = absurd (omega arith)
set_here (y ∷ ys) zero x less = refl
set_here (y ∷ ys) (suc k) x less = set_here ys k x (omega (arith, less))

pub set_other : {X : Type 0} (xs : List X) (k n : ℕ) (x : X) → k ≢ n → slice_get (slice_set xs k x) n ≡ slice_get xs n
set_other [] k n x apart = refl
set_other (y ∷ ys) zero zero x apart = absurd (apart refl)
set_other (y ∷ ys) zero (suc n) x apart = refl
set_other (y ∷ ys) (suc k) zero x apart = refl
set_other (y ∷ ys) (suc k) (suc n) x apart = set_other ys k n x (λ e. apart (ap suc e))

-- a number is written, and read again anywhere
pub written : {X : Type 0} (xs : List X) (k n : ℕ) (x : X) → k < length xs → slice_get (slice_set xs k x) n ≡ (if k == n then Some x else slice_get xs n)
written xs k n x less =
    ⊎_elim (λ (e : ((k == n) ≡ true) × (k ≡ n)). subst (λ m. slice_get (slice_set xs k x) m ≡ Some x) e.1 (set_here xs k x less) ∙ sym (ap (λ b. cond b (Some x) (slice_get xs n)) e.0))
    (λ (e : ((k == n) ≡ false) × (k ≢ n)). set_other xs k n x e.1 ∙ sym (ap (λ b. cond b (Some x) (slice_get xs n)) e.0))
    (eqb_tells k n)

through : {X Y : Type 0} (f : X → Y) (b : Bool) (x y : X) → f (cond b x y) ≡ cond b (f x) (f y)
through f true x y = refl
through f false x y = refl

pub place_set : (xs : List (Option ℕ)) (k n : ℕ) (x : Option ℕ) → k < length xs → place (slice_set xs k x) n ≡ (if k == n then x else place xs n)
unfolding place
place_set xs k n x less = ap within_place (written xs k n x less) ∙ through within_place (k == n) (Some x) (slice_get xs n)

-- a number below is its own content
pub content_below : (n : ℕ) → n < 2 ^ 32 - 1 → content_of n ≡ Some n
content_below n less = ⊎_elim
    (λ (e : ((n == 2 ^ 32 - 1) ≡ true) × (n ≡ 2 ^ 32 - 1)). absurd (omega (arith, less, e.1)))
    (λ (e : ((n == 2 ^ 32 - 1) ≡ false) × (n ≢ 2 ^ 32 - 1)). ap (λ b. cond b None (Some n)) e.0)
    (eqb_tells n (2 ^ 32 - 1))

-- a slot with this content is put there
pub place_put : (xs : List (Option ℕ)) (k n : ℕ) (x content : Option ℕ) → x ≡ content → k < length xs → place (slice_set xs k x) n ≡ (if k == n then content else place xs n)
place_put xs k n x content is less = place_set xs k n x less ∙ ap (λ o. cond (k == n) o (place xs n)) is

pub place_past : (xs : List (Option ℕ)) (k : ℕ) → length xs ≤ k → None ≡ place xs k
unfolding place
place_past xs k past = sym (ap within_place (slice_get_past xs k past))

-- past the end there is nothing to empty
pub place_left : (xs : List (Option ℕ)) (k n : ℕ) → length xs ≤ k → place xs n ≡ (if k == n then None else place xs n)
place_left xs k n past =
    ⊎_elim (λ (e : ((k == n) ≡ true) × (k ≡ n)). subst (λ m. place xs m ≡ None) e.1 (sym (place_past xs k past)) ∙ sym (ap (λ b. cond b None (place xs n)) e.0))
    (λ (e : ((k == n) ≡ false) × (k ≢ n)). sym (ap (λ b. cond b None (place xs n)) e.0))
    (eqb_tells k n)

pub flag_written : (xs : List Bool) (k n : ℕ) (x : Bool) → k < length xs → is_set (slice_set xs k x) n ≡ (if k == n then x else is_set xs n)
unfolding is_set
flag_written xs k n x less = ap (λ o. unwrap_or o false) (written xs k n x less) ∙ through (λ o. unwrap_or o false) (k == n) (Some x) (slice_get xs n)

-- what a look-up finds
pub place_read : (xs : List (Option ℕ)) (k : ℕ) (x : Option ℕ) → k < length xs → x ≡ get_or xs k x → x ≡ place xs k
unfolding place
place_read xs k x less read = sym (ap within_place (slice_get_read xs (length xs) k x refl less read))

pub flag_read : (xs : List Bool) (k : ℕ) (x : Bool) → k < length xs → x ≡ get_or xs k x → x ≡ is_set xs k
unfolding is_set
flag_read xs k x less read = sym (ap (λ o. unwrap_or o false) (slice_get_read xs (length xs) k x refl less read))

pub flag_past : (xs : List Bool) (k : ℕ) → length xs ≤ k → false ≡ is_set xs k
unfolding is_set
flag_past xs k past = sym (ap (λ o. unwrap_or o false) (slice_get_past xs k past))

-- one flag more is set
pub count_raised : (xs : List Bool) (k : ℕ) → k < length xs → is_set xs k ≡ false → unset (slice_set xs k true) + 1 ≡ unset xs
unfolding is_set
count_raised [] k less low = absurd (omega arith)
count_raised (x ∷ xs) zero less low = add-one (unset xs) ∙ sym (ap (λ b. cond b (unset xs) (suc (unset xs))) low)
count_raised (x ∷ xs) (suc k) less low = step x (count_raised xs k (omega (arith, less)) low)
  where
    step : (b : Bool) → unset (slice_set xs k true) + 1 ≡ unset xs → cond b (unset (slice_set xs k true)) (suc (unset (slice_set xs k true))) + 1 ≡ cond b (unset xs) (suc (unset xs))
    step true e = e
    step false e = omega (arith, e)

pub unset_few : (xs : List Bool) → unset xs ≤ length xs
unset_few [] = omega arith
unset_few (x ∷ xs) = elim x as (λ b. cond b (unset xs) (suc (unset xs)) ≤ length (x ∷ xs)) [ true ↦ omega (arith, unset_few xs) | false ↦ omega (arith, unset_few xs) ]

pub flag_within : (xs : List Bool) (k : ℕ) → is_set xs k ≡ true → k < length xs
unfolding is_set
flag_within [] k is = absurd (both_ways false refl is)
flag_within (x ∷ xs) zero is = omega arith
flag_within (x ∷ xs) (suc k) is = omega (arith, flag_within xs k is)

pub place_within : (xs : List (Option ℕ)) (k x : ℕ) → place xs k ≡ Some x → k < length xs
unfolding place
place_within [] k x is = absurd (none-some x is)
place_within (y ∷ ys) zero x is = omega arith
place_within (y ∷ ys) (suc k) x is = omega (arith, place_within ys k x is)
