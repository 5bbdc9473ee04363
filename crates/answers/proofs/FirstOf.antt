-- The first of a list for which there is something, and whether there is one, from a place on.
use Rattle.std.proofs.Common.{◌≡◌, ℕ, suc, ◌+◌, ◌<◌, ◌≤◌, Bool, true, false, ◌||◌, List, ◌∷◌, length, get_or, drop, map, Option, Some, None, sym, ap, ◌∙◌, arith}
use Rattle.std.specs.List.{list_any}
use Rattle.std.proofs.Math.ListN.{drop_of_length-le}
use Rattle.std.proofs.Math.Seq.{drop-cons}
use Rattle.list_laws.proofs.Each.{any_mapped}
use Rattle.session_model.specs.Lists.{first_some, or_else}
use Rattle.session_model.proofs.Choices.{first_mapped}

from_place : {X : Type 0} (xs : List X) (i : ℕ) (d : X) → i < length xs → drop i xs ≡ get_or xs i d ∷ drop (i + 1) xs
from_place xs i d below =
    let next : suc i ≡ i + 1 = omega arith in
    drop-cons xs i d below ∙ ap (λ n. get_or xs i d ∷ drop n xs) next

pub first_here : {X Y : Type 0} (f : X → Option Y) (xs : List X) (i : ℕ) (d : X) (o : Option Y) → i < length xs → f (get_or xs i d) ≡ o → first_some f (drop i xs) ≡ or_else o (first_some f (drop (i + 1) xs))
first_here f xs i d o below e = ap (first_some f) (from_place xs i d below) ∙ ap (λ p. or_else p (first_some f (drop (i + 1) xs))) e

pub first_past : {X Y : Type 0} (f : X → Option Y) (xs : List X) (i : ℕ) → length xs ≤ i → first_some f (drop i xs) ≡ None
first_past f xs i above = ap (first_some f) (drop_of_length-le xs above)

pub any_here : {X : Type 0} (f : X → Bool) (xs : List X) (i : ℕ) (d : X) (b : Bool) → i < length xs → f (get_or xs i d) ≡ b → list_any f (drop i xs) ≡ (b || list_any f (drop (i + 1) xs))
any_here f xs i d b below e = ap (list_any f) (from_place xs i d below) ∙ ap (λ p. p || list_any f (drop (i + 1) xs)) e

pub any_past : {X : Type 0} (f : X → Bool) (xs : List X) (i : ℕ) → length xs ≤ i → list_any f (drop i xs) ≡ false
any_past f xs i above = ap (list_any f) (drop_of_length-le xs above)

-- What a search finds that has come to a place without finding anything

pub found_first : {X Y Z : Type 0} (f : Y → Option Z) (g : X → Y) (xs : List X) (i : ℕ) (x : X) (z : Z) → first_some (λ y. f (g y)) xs ≡ first_some (λ y. f (g y)) (drop i xs) → i < length xs → x ≡ get_or xs i x → f (g x) ≡ Some z → Some z ≡ first_some f (map g xs)
found_first f g xs i x z so_far below is e = sym (first_mapped f g xs ∙ (so_far ∙ first_here (λ y. f (g y)) xs i x (Some z) below (ap (λ y. f (g y)) (sym is) ∙ e)))

pub found_none : {X Y Z : Type 0} (f : Y → Option Z) (g : X → Y) (xs : List X) (i : ℕ) → first_some (λ y. f (g y)) xs ≡ first_some (λ y. f (g y)) (drop i xs) → length xs ≤ i → None ≡ first_some f (map g xs)
found_none f g xs i so_far above = sym (first_mapped f g xs ∙ (so_far ∙ first_past (λ y. f (g y)) xs i above))

pub more_first : {X Z : Type 0} (f : X → Option Z) (xs : List X) (i : ℕ) (x : X) → first_some f xs ≡ first_some f (drop i xs) → i < length xs → x ≡ get_or xs i x → f x ≡ None → first_some f xs ≡ first_some f (drop (i + 1) xs)
more_first f xs i x so_far below is e = so_far ∙ first_here f xs i x None below (ap f (sym is) ∙ e)

pub found_any : {X Y : Type 0} (f : Y → Bool) (g : X → Y) (xs : List X) (i : ℕ) (x : X) → list_any (λ y. f (g y)) xs ≡ list_any (λ y. f (g y)) (drop i xs) → i < length xs → x ≡ get_or xs i x → f (g x) ≡ true → true ≡ list_any f (map g xs)
found_any f g xs i x so_far below is e = sym (any_mapped f g xs ∙ (so_far ∙ any_here (λ y. f (g y)) xs i x true below (ap (λ y. f (g y)) (sym is) ∙ e)))

pub found_no : {X Y : Type 0} (f : Y → Bool) (g : X → Y) (xs : List X) (i : ℕ) → list_any (λ y. f (g y)) xs ≡ list_any (λ y. f (g y)) (drop i xs) → length xs ≤ i → false ≡ list_any f (map g xs)
found_no f g xs i so_far above = sym (any_mapped f g xs ∙ (so_far ∙ any_past (λ y. f (g y)) xs i above))
