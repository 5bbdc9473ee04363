-- The first of two options, and what is chosen of the first element that has something to choose.
use Rattle.std.proofs.Common.{◌≡◌, ℕ, zero, suc, List, [], ◌∷◌, ◌++◌, map, flat_map, slice_get, Option, Some, None, refl, ap, sym, ◌∙◌}
use Rattle.std.proofs.lemmas.Option.{none-some, same_Some}
use Rattle.session_model.specs.Lists.{first_some, or_else}

-- The first of two

pub or_else_assoc : {X : Type 0} (a b c : Option X) → or_else (or_else a b) c ≡ or_else a (or_else b c)
or_else_assoc None b c = refl
or_else_assoc (Some x) b c = refl

pub or_else_none : {X : Type 0} (a : Option X) → or_else a None ≡ a
or_else_none None = refl
or_else_none (Some x) = refl

-- where neither is there
pub or_else_parts : {X : Type 0} (a b : Option X) → or_else a b ≡ None → (a ≡ None) × (b ≡ None)
or_else_parts None b e = (refl, e)
or_else_parts (Some x) b e = absurd (none-some x (sym e))

-- Of a list

-- of two lists, one behind the other
pub first_append : {X Y : Type 0} (f : X → Option Y) (xs ys : List X) → first_some f (xs ++ ys) ≡ or_else (first_some f xs) (first_some f ys)
first_append f [] ys = refl
first_append f (x ∷ xs) ys = ap (or_else (f x)) (first_append f xs ys) ∙ sym (or_else_assoc (f x) (first_some f xs) (first_some f ys))

-- of lists, one list after the other
pub first_flat : {X Y Z : Type 0} (f : Y → Option Z) (g : X → List Y) (xs : List X) → first_some f (flat_map g xs) ≡ first_some (λ x. first_some f (g x)) xs
first_flat f g [] = refl
first_flat f g (x ∷ xs) = first_append f (g x) (flat_map g xs) ∙ ap (or_else (first_some f (g x))) (first_flat f g xs)

pub first_mapped : {X Y Z : Type 0} (f : Y → Option Z) (g : X → Y) (xs : List X) → first_some f (map g xs) ≡ first_some (λ x. f (g x)) xs
first_mapped f g [] = refl
first_mapped f g (x ∷ xs) = ap (or_else (f (g x))) (first_mapped f g xs)

-- what is so of all that may be chosen
pub some_of_first : {X Y : Type 0} (Q : Y → Type 0) (f : X → Option Y) → ((x : X) (y : Y) → f x ≡ Some y → Q y) → (xs : List X) (y : Y) → first_some f xs ≡ Some y → Q y
some_of_first Q f h [] y e = absurd (none-some y e)
some_of_first {X} {Y} Q f h (x ∷ xs) y e = split (f x) refl e (some_of_first Q f h xs y)
  where
    split : (o : Option Y) → f x ≡ o → or_else o (first_some f xs) ≡ Some y → (first_some f xs ≡ Some y → Q y) → Q y
    split None is g rest = rest g
    split (Some z) is g rest = h x y (is ∙ g)

-- where no element has something to choose, each has nothing
pub none_chosen : {X Y : Type 0} (f : X → Option Y) (xs : List X) → first_some f xs ≡ None → (i : ℕ) (x : X) → slice_get xs i ≡ Some x → f x ≡ None
none_chosen f [] e i x t = absurd (none-some x t)
none_chosen {X} {Y} f (y ∷ ys) e i x t = split (f y) refl e (none_chosen f ys) i t
  where
    split : (o : Option Y) → f y ≡ o → or_else o (first_some f ys) ≡ None → (first_some f ys ≡ None → (i : ℕ) (x : X) → slice_get ys i ≡ Some x → f x ≡ None) → (i : ℕ) → slice_get (y ∷ ys) i ≡ Some x → f x ≡ None
    split (Some z) is g rest i t = absurd (none-some z (sym g))
    split None is g rest zero t = ap f (sym (same_Some y x t)) ∙ is
    split None is g rest (suc i) t = rest g i x t
