-- Elements of lists that are changed at a place, numbered or mapped. What is so of all lists is passed on.
use Rattle.std.proofs.Common.{◌≡◌, ℕ, zero, suc, ◌+◌, map, List, [], ◌∷◌, length, slice_get, ◌⊎◌, inl, inr, arith, subst, sym, refl, ap, ◌∙◌, Option, Some, None, option_map}
use Rattle.std.proofs.lemmas.Bool.{cases_eq}
use Rattle.std.proofs.lemmas.Option.{none-some, same_Some}
use Rattle.session_model.specs.Lists.{changed_at, numbered}
pub use Rattle.std.proofs.lemmas.Option.{slice_get_within as element_below, slice_get_past as none_past, slice_get-map as mapped_at}
pub use Rattle.list_laws.proofs.Lists.{front_some, appended_at, appended_below, appended_cases, pushed_cases, pushed_last, mapped_parts, mapped_some}
pub use Rattle.list_laws.proofs.Options.{map_parts, same_element}
pub use Rattle.session_model.proofs.Changes.{numbered_length}

-- by the answer of a look-up
abbrev pub IsElement : {X : Type 0} → List X → ℕ → X → Type 0
IsElement xs i x = slice_get xs i ≡ Some x

pub none_there : {X : Type 0} {P : Type 0} (o : Option X) (x : X) → o ≡ None → o ≡ Some x → P
none_there o x e f = absurd (none-some x (sym e ∙ f))

-- Changed at a place

pub changed_there : {X : Type 0} (k : ℕ) (f : X → X) (xs : List X) → slice_get (changed_at k f xs) k ≡ option_map f (slice_get xs k)
changed_there k f [] = refl
changed_there zero f (x ∷ xs) = refl
changed_there (suc k) f (x ∷ xs) = changed_there k f xs

pub changed_elsewhere : {X : Type 0} (k : ℕ) (f : X → X) (xs : List X) (i : ℕ) → (i ≡ k → ⊥) → slice_get (changed_at k f xs) i ≡ slice_get xs i
changed_elsewhere k f [] i n = refl
changed_elsewhere zero f (x ∷ xs) zero n = absurd (n refl)
changed_elsewhere zero f (x ∷ xs) (suc i) n = refl
changed_elsewhere (suc k) f (x ∷ xs) zero n = refl
changed_elsewhere (suc k) f (x ∷ xs) (suc i) n = changed_elsewhere k f xs i (λ e. n (ap suc e))

pub changed_length : {X : Type 0} (k : ℕ) (f : X → X) (xs : List X) → length (changed_at k f xs) ≡ length xs
changed_length k f [] = refl
changed_length zero f (x ∷ xs) = refl
changed_length (suc k) f (x ∷ xs) = ap suc (changed_length k f xs)

-- an element of the changed list: the changed one, or another one as it was
pub changed_cases : {X : Type 0} (k : ℕ) (f : X → X) (xs : List X) (i : ℕ) (y : X) → slice_get (changed_at k f xs) i ≡ Some y →
    ((i ≡ k) × ((x : X) × (slice_get xs i ≡ Some x) × (y ≡ f x))) ⊎ ((i ≡ k → ⊥) × (slice_get xs i ≡ Some y))
changed_cases {X} k f xs i y e = split (cases_eq i k)
  where
    mapped : (o : Option X) → option_map f o ≡ Some y → (x : X) × (o ≡ Some x) × (y ≡ f x)
    mapped None h = absurd (none-some y h)
    mapped (Some x) h = (x, refl, sym (same_Some (f x) y h))

    split : (i ≡ k) ⊎ (i ≡ k → ⊥) → ((i ≡ k) × ((x : X) × (slice_get xs i ≡ Some x) × (y ≡ f x))) ⊎ ((i ≡ k → ⊥) × (slice_get xs i ≡ Some y))
    split (inl is) = inl (is, mapped (slice_get xs i) (sym (subst (λ j. slice_get (changed_at k f xs) j ≡ option_map f (slice_get xs j)) (sym is) (changed_there k f xs)) ∙ e))
    split (inr apart) = inr (apart, sym (changed_elsewhere k f xs i apart) ∙ e)

-- Numbered and mapped

pub numbered_there : {X Y : Type 0} (f : ℕ → X → Y) (k : ℕ) (xs : List X) (i n : ℕ) → n ≡ k + i → slice_get (numbered f k xs) i ≡ option_map (f n) (slice_get xs i)
numbered_there f k [] i n e = refl
numbered_there f k (x ∷ xs) zero n e = ap (λ j. Some (f j x)) (omega (arith, e))
numbered_there f k (x ∷ xs) (suc i) n e = numbered_there f (k + 1) xs i n (omega (arith, e))

pub numbered_at : {X Y : Type 0} (f : ℕ → X → Y) (xs : List X) (i : ℕ) → slice_get (numbered f 0 xs) i ≡ option_map (f i) (slice_get xs i)
numbered_at f xs i = numbered_there f 0 xs i i (omega arith)

pub mapped_length : {X Y : Type 0} (f : X → Y) (xs : List X) → length (map f xs) ≡ length xs
mapped_length f [] = refl
mapped_length f (x ∷ xs) = ap suc (mapped_length f xs)

pub numbered_parts : {X Y : Type 0} (f : ℕ → X → Y) (xs : List X) (i : ℕ) (y : Y) → slice_get (numbered f 0 xs) i ≡ Some y → (x : X) × (slice_get xs i ≡ Some x) × (y ≡ f i x)
numbered_parts f xs i y e = map_parts (f i) (slice_get xs i) y (sym (numbered_at f xs i) ∙ e)

pub numbered_some : {X Y : Type 0} (f : ℕ → X → Y) (xs : List X) (i : ℕ) (x : X) → slice_get xs i ≡ Some x → slice_get (numbered f 0 xs) i ≡ Some (f i x)
numbered_some f xs i x e = numbered_at f xs i ∙ ap (option_map (f i)) e

pub changed_some : {X : Type 0} (k : ℕ) (f : X → X) (xs : List X) (x : X) → slice_get xs k ≡ Some x → slice_get (changed_at k f xs) k ≡ Some (f x)
changed_some k f xs x e = changed_there k f xs ∙ ap (option_map f) e
