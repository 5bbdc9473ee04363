-- Elements of lists that grow at their end.
use Rattle.std.proofs.Common.{◌≡◌, ℕ, true, false, Option, Some, None, ◌⊎◌, inl, inr, ⊎_elim, subst, ◌+◌, ◌<◌, ◌≤◌, List, [], ◌∷◌, ◌++◌, length, Contains, zero, suc, ap, ◌∙◌, refl, arith}
use Rattle.std.specs.Prelude.{slice_get, MatchOption, is_some}
use Rattle.std.proofs.lemmas.Bool.{both_ways, cases_lt}
use Rattle.std.proofs.lemmas.Option.{same_Some, none-some, slice_get-get_or, slice_get_within, get_or_from_slice_get}

pub get_kept : {X : Type 0} (xs ys : List X) (k : ℕ) (x : X) → slice_get xs k ≡ Some x → slice_get (xs ++ ys) k ≡ Some x
get_kept [] ys k x is = absurd (none-some x is)
get_kept (y ∷ xs) ys zero x is = is
get_kept (y ∷ xs) ys (suc k) x is = get_kept xs ys k x is

pub get_last : {X : Type 0} (xs : List X) (x : X) → slice_get (xs ++ x ∷ []) (length xs) ≡ Some x
get_last [] x = refl
get_last (y ∷ xs) x = get_last xs x

pub get_push : {X : Type 0} (xs : List X) (y : X) (k : ℕ) (x : X) → slice_get (xs ++ y ∷ []) k ≡ Some x → (slice_get xs k ≡ Some x) ⊎ ((k ≡ length xs) × (y ≡ x))
get_push [] y zero x is = inr (refl, same_Some y x is)
get_push [] y (suc k) x is = absurd (none-some x is)
get_push (z ∷ xs) y zero x is = inl is
get_push (z ∷ xs) y (suc k) x is = further (get_push xs y k x is)
  where
    further : (slice_get xs k ≡ Some x) ⊎ ((k ≡ length xs) × (y ≡ x)) → (slice_get xs k ≡ Some x) ⊎ ((suc k ≡ length (z ∷ xs)) × (y ≡ x))
    further (inl e) = inl e
    further (inr e) = inr (ap suc e.0, e.1)

pub contains_at : {X : Type 0} (xs : List X) (x : X) → Contains xs x → (k : ℕ) × (slice_get xs k ≡ Some x)
contains_at xs x c = (c.0, slice_get-get_or xs c.0 x c.1 ∙ ap Some c.2)

pub at_contains : {X : Type 0} (xs : List X) (k : ℕ) (x : X) → slice_get xs k ≡ Some x → Contains xs x
at_contains xs k x is = (k, slice_get_within xs k x is, get_or_from_slice_get xs k x x is)

pub none_case : {X : Type 0} (o : Option X) (P : Type 0) (Q : X → Type 0) → is_some o ≡ false → MatchOption o P Q → P
none_case None P Q e m = m
none_case (Some x) P Q e m = absurd (both_ways true e refl)

-- one place more
pub each_more : {X : Type 0} (xs : List X) (n : ℕ) (P : X → Type 0) → ((k : ℕ) (x : X) → k < n → slice_get xs k ≡ Some x → P x) → ((x : X) → slice_get xs n ≡ Some x → P x) → (k : ℕ) (x : X) → k < n + 1 → slice_get xs k ≡ Some x → P x
each_more xs n P before last k x below is =
    ⊎_elim (λ (b : k < n). before k x b is) (λ (b : n ≤ k). let e : k ≡ n = omega (arith, b, below) in last x (subst (λ m. slice_get xs m ≡ Some x) e is)) (cases_lt k n)
