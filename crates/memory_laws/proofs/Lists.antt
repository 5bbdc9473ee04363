-- Elements of lists that are paired, mapped, filtered or chosen from.
use Rattle.std.proofs.Common.{◌≡◌, ℕ, zero, suc, ◌+◌, ◌<◌, ◌≤◌, Bool, true, false, cond, List, [], ◌∷◌, map, filter, filter_map, zip, slice_get, Contains, inl, inr, subst, refl, ap, ◌∙◌, arith, Option, Some, None}
use Rattle.std.specs.List.{cons_option, range_with_len}
use Rattle.std.proofs.lemmas.Bool.{both_ways, cases_eq}
use Rattle.std.proofs.lemmas.Option.{none-some, same_Some}
use Rattle.list_laws.proofs.Each.{contains_later, contains_here}
use Rattle.block_groups.proofs.Rows.{contains_cases, contains_none}

-- Pairs

pub pair_parts : {X Y : Type 0} (xs : List X) (ys : List Y) (k : ℕ) (p : X × Y) → slice_get (zip xs ys) k ≡ Some p → (slice_get xs k ≡ Some p.0) × (slice_get ys k ≡ Some p.1)
pair_parts [] ys k p e = absurd (none-some p e)
pair_parts (x ∷ xs) [] k p e = absurd (none-some p e)
pair_parts {X} {Y} (x ∷ xs) (y ∷ ys) zero p e = let is : (x, y) ≡ p = same_Some (x, y) p e in (ap (λ (q : X × Y). Some q.0) is, ap (λ (q : X × Y). Some q.1) is)
pair_parts (x ∷ xs) (y ∷ ys) (suc k) p e = pair_parts xs ys k p e

pub pair_there : {X Y : Type 0} (xs : List X) (ys : List Y) (k : ℕ) (x : X) (y : Y) → slice_get xs k ≡ Some x → slice_get ys k ≡ Some y → slice_get (zip xs ys) k ≡ Some (x, y)
pair_there [] ys k x y e f = absurd (none-some x e)
pair_there (z ∷ zs) [] k x y e f = absurd (none-some y f)
pair_there {X} {Y} (z ∷ zs) (w ∷ ws) zero x y e f = ap (λ (a : X). Some (a, w)) (same_Some z x e) ∙ ap (λ (b : Y). Some (x, b)) (same_Some w y f)
pair_there (z ∷ zs) (w ∷ ws) (suc k) x y e f = pair_there zs ws k x y e f

-- Elements that pass a test, or are chosen

put_later : {X : Type 0} (t : Bool) (y : X) (ys : List X) (x : X) → Contains ys x → Contains (cond t (y ∷ ys) ys) x
put_later true y ys x c = contains_later y x ys c
put_later false y ys x c = c

put_first : {X : Type 0} (t : Bool) (y : X) (ys : List X) → t ≡ true → Contains (cond t (y ∷ ys) ys) y
put_first true y ys on = contains_here y ys
put_first false y ys on = absurd (both_ways false refl on)

pub filter_here : {X : Type 0} (test : X → Bool) (xs : List X) (x : X) → Contains xs x → test x ≡ true → Contains (filter test xs) x
filter_here test [] x c on = contains_none x c
filter_here test (y ∷ ys) x c on = elim (contains_cases y x ys c) [
  | inl is ↦ subst (Contains (filter test (y ∷ ys))) is (put_first (test y) y (filter test ys) (ap test is ∙ on))
  | inr rest ↦ put_later (test y) y (filter test ys) x (filter_here test ys x rest on)
]

pub map_here : {X Y : Type 0} (f : X → Y) (xs : List X) (x : X) → Contains xs x → Contains (map f xs) (f x)
map_here f [] x c = contains_none x c
map_here f (y ∷ ys) x c = elim (contains_cases y x ys c) [
  | inl is ↦ subst (λ z. Contains (map f (y ∷ ys)) (f z)) is (contains_here (f y) (map f ys))
  | inr rest ↦ contains_later (f y) (f x) (map f ys) (map_here f ys x rest)
]

pub map_there : {X Y : Type 0} (f : X → Y) (xs : List X) (y : Y) → Contains (map f xs) y → (x : X) × Contains xs x × (f x ≡ y)
map_there f [] y c = contains_none y c
map_there f (x ∷ xs) y c = elim (contains_cases (f x) y (map f xs) c) [
  | inl is ↦ (x, contains_here x xs, is)
  | inr rest ↦ (let p = map_there f xs y rest in (p.0, contains_later x p.0 xs p.1, p.2))
]

chosen_later : {Y : Type 0} (o : Option Y) (ys : List Y) (y : Y) → Contains ys y → Contains (cons_option o ys) y
chosen_later None ys y c = c
chosen_later (Some z) ys y c = contains_later z y ys c

chosen_first : {Y : Type 0} (o : Option Y) (ys : List Y) (y : Y) → o ≡ Some y → Contains (cons_option o ys) y
chosen_first None ys y e = absurd (none-some y e)
chosen_first (Some z) ys y e = subst (Contains (z ∷ ys)) (same_Some z y e) (contains_here z ys)

pub chosen_here : {X Y : Type 0} (f : X → Option Y) (xs : List X) (x : X) (y : Y) → Contains xs x → f x ≡ Some y → Contains (filter_map f xs) y
chosen_here f [] x y c e = contains_none x c
chosen_here f (z ∷ zs) x y c e = elim (contains_cases z x zs c) [
  | inl is ↦ chosen_first (f z) (filter_map f zs) y (ap f is ∙ e)
  | inr rest ↦ chosen_later (f z) (filter_map f zs) y (chosen_here f zs x y rest e)
]

pub range_here : (a n b : ℕ) → a ≤ b → b < a + n → Contains (range_with_len a n) b
range_here a zero b low high = absurd (omega (arith, low, high))
range_here a (suc n) b low high = elim (cases_eq a b) [
  | inl is ↦ subst (Contains (range_with_len a (suc n))) is (contains_here a (range_with_len (a + 1) n))
  | inr other ↦ contains_later a b (range_with_len (a + 1) n) (range_here (a + 1) n b (above low other) (omega (arith, high)))
]
  where
    above : a ≤ b → (a ≡ b → ⊥) → a + 1 ≤ b
    above low other = omega (arith, low, other)
