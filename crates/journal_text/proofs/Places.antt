-- What holds of the images of a list's elements.
use Rattle.std.proofs.Common.{◌≡◌, ◌↔◌, ℕ, ◌+◌, ◌<◌, ◌≤◌, Bool, false, IsTrue, List, length, get_or, take, sym, ◌∙◌, ap, subst, rules}
use Rattle.std.specs.Prelude.{All, map}
use Rattle.std.proofs.lemmas.List.{get_or-map, length-map, take_all}
use Rattle.std.proofs.lemmas.List.Elements.{All-map, All-more}

-- what holds of each element's image holds of this one's
pub at_place : {X Y : Type 0} (P : Y → Type 0) (f : X → Y) (xs : List X) (k : ℕ) (x : X) → k < length xs → x ≡ get_or xs k x → All P (map f xs) → P (f x)
at_place P f xs k x within is all = subst P (get_or-map f xs k x (f x) within ∙ ap f (sym is)) (all k (f x) (rw length-map within))

-- where it doesn't hold of this one's, it doesn't hold of all
pub no_place : {X Y : Type 0} (P : Y → Type 0) (f : X → Y) (xs : List X) (k : ℕ) (x : X) → k < length xs → x ≡ get_or xs k x → (test : Bool) → test ≡ false → (P (f x) → IsTrue test) → IsTrue false ↔ All P (map f xs)
no_place P f xs k x within is test fails holds = (λ h. absurd (search rules), λ all. let h = holds (at_place P f xs k x within is all) in rw (sym fails) h)

-- what holds so far, and of the next one's image, holds one further
pub more_places : {X Y : Type 0} (P : Y → Type 0) (f : X → Y) (xs : List X) (k : ℕ) (x : X) → k < length xs → x ≡ get_or xs k x → All (λ y. P (f y)) (take k xs) → P (f x) → All (λ y. P (f y)) (take (k + 1) xs)
more_places P f xs k x within is before here = All-more (λ y. P (f y)) xs k x within before (subst (λ y. P (f y)) is here)

-- what holds as far as the end holds of all
pub every_place : {X Y : Type 0} (P : Y → Type 0) (f : X → Y) (xs : List X) (k : ℕ) → length xs ≤ k → All (λ y. P (f y)) (take k xs) → All P (map f xs)
every_place P f xs k end before = All-map P f xs (subst (All (λ y. P (f y))) (take_all k xs end) before)
