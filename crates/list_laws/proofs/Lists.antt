-- Elements of lists by number: of lists that are longer at the end, mapped, or changed at a place.
use Rattle.std.proofs.Common.{◌≡◌, ℕ, zero, suc, ◌+◌, ◌<◌, ◌≤◌, ◌⊎◌, inl, inr, cond, Bool, ◌==◌, List, [], ◌∷◌, ◌++◌, map, take, drop, set, get_or, length, slice_get, Some, None, option_map, refl, ap, ap₂, sym, ◌∙◌, add-one, get_or-set_same, get_or-set_other, arith, unwrap_or}
use Rattle.std.proofs.lemmas.Bool.{cases_eq, eq-eqb, ne_eqb}
use Rattle.std.proofs.lemmas.List.{take_more}
use Rattle.std.proofs.lemmas.Option.{none-some, same_Some, slice_get-map, slice_get-get_or, slice_get_within, get_or_from_slice_get}
use Rattle.list_laws.proofs.Options.{map_parts}

-- the only element is the first
pub first_place : {X : Type 0} (x a : X) (k : ℕ) → slice_get (x ∷ []) k ≡ Some a → k ≡ 0
first_place x a zero e = refl
first_place x a (suc k) e = absurd (none-some a e)

-- an element below the length is there
pub some_below : {X : Type 0} (xs : List X) (k : ℕ) → k < length xs → (x : X) × (slice_get xs k ≡ Some x)
some_below [] k lt = absurd (omega (arith, lt))
some_below (x ∷ xs) zero lt = (x, refl)
some_below (x ∷ xs) (suc k) lt = some_below xs k (omega (arith, lt))

-- and where none is, the list has ended
pub missing_past : {X : Type 0} (xs : List X) (k : ℕ) → slice_get xs k ≡ None → length xs ≤ k
missing_past [] k e = omega arith
missing_past (x ∷ xs) zero e = absurd (none-some x (sym e))
missing_past (x ∷ xs) (suc k) e = omega (arith, missing_past xs k e)

-- lists with the same elements are the same
pub list_same : {X : Type 0} (xs ys : List X) → ((i : ℕ) → slice_get xs i ≡ slice_get ys i) → xs ≡ ys
list_same [] [] h = refl
list_same [] (y ∷ ys) h = absurd (none-some y (h 0))
list_same (x ∷ xs) [] h = absurd (none-some x (sym (h 0)))
list_same (x ∷ xs) (y ∷ ys) h = ap₂ (λ z zs. z ∷ zs) (same_Some x y (h 0)) (list_same xs ys (λ i. h (suc i)))

-- lists whose elements are the same but for a change are as long
pub lengths_from : {X : Type 0} (old new : List X) (f : ℕ → X → X) → ((i : ℕ) → slice_get new i ≡ option_map (f i) (slice_get old i)) → length new ≡ length old
lengths_from [] [] f h = refl
lengths_from [] (y ∷ ys) f h = absurd (none-some y (sym (h 0)))
lengths_from (x ∷ xs) [] f h = absurd (none-some (f 0 x) (h 0))
lengths_from {X} (x ∷ xs) (y ∷ ys) f h = ap suc (lengths_from xs ys (λ i. f (suc i)) (λ i. h (suc i)))

-- Longer at the end

pub front_some : {X : Type 0} (xs ys : List X) (i : ℕ) (x : X) → slice_get xs i ≡ Some x → slice_get (xs ++ ys) i ≡ Some x
front_some [] ys i x e = absurd (none-some x e)
front_some (z ∷ zs) ys zero x e = e
front_some (z ∷ zs) ys (suc i) x e = front_some zs ys i x e

pub appended_below : {X : Type 0} (xs ys : List X) (i : ℕ) → i < length xs → slice_get (xs ++ ys) i ≡ slice_get xs i
appended_below [] ys i h = absurd (omega (arith, h))
appended_below (x ∷ xs) ys zero h = refl
appended_below (x ∷ xs) ys (suc i) h = appended_below xs ys i (omega (arith, h))

pub appended_at : {X : Type 0} (xs ys : List X) (k : ℕ) → slice_get (xs ++ ys) (length xs + k) ≡ slice_get ys k
appended_at [] ys k = ap (slice_get ys) (omega arith)
appended_at (x ∷ xs) ys k = go (length xs + k) (suc (length xs) + k) (omega arith) (appended_at xs ys k)
  where
    go : (n m : ℕ) → m ≡ suc n → slice_get (xs ++ ys) n ≡ slice_get ys k → slice_get (x ∷ xs ++ ys) m ≡ slice_get ys k
    go n m e h = ap (slice_get (x ∷ xs ++ ys)) e ∙ h

-- an element of the longer list: an old one, or a new one
pub appended_cases : {X : Type 0} (xs ys : List X) (i : ℕ) (y : X) → slice_get (xs ++ ys) i ≡ Some y →
    (slice_get xs i ≡ Some y) ⊎ ((k : ℕ) × (i ≡ length xs + k) × (slice_get ys k ≡ Some y))
appended_cases [] ys i y e = inr (i, (omega arith), e)
appended_cases (x ∷ xs) ys zero y e = inl e
appended_cases {X} (x ∷ xs) ys (suc i) y e = split (appended_cases xs ys i y e)
  where
    split : (slice_get xs i ≡ Some y) ⊎ ((k : ℕ) × (i ≡ length xs + k) × (slice_get ys k ≡ Some y)) → (slice_get xs i ≡ Some y) ⊎ ((k : ℕ) × (suc i ≡ suc (length xs) + k) × (slice_get ys k ≡ Some y))
    split (inl a) = inl a
    split (inr b) = inr (b.0, (omega (arith, b.1)), b.2)

pub pushed_last : {X : Type 0} (xs : List X) (x : X) → slice_get (xs ++ x ∷ []) (length xs) ≡ Some x
pushed_last [] x = refl
pushed_last (y ∷ ys) x = pushed_last ys x

-- what is read as the default where nothing is can stand there
pub pushed_read : {X : Type 0} (xs : List X) (d : X) (k : ℕ) → unwrap_or (slice_get (xs ++ d ∷ []) k) d ≡ unwrap_or (slice_get xs k) d
pushed_read [] d zero = refl
pushed_read [] d (suc k) = refl
pushed_read (x ∷ xs) d zero = refl
pushed_read (x ∷ xs) d (suc k) = pushed_read xs d k

-- an element of a list with one more
pub pushed_cases : {X : Type 0} (xs : List X) (x : X) (i : ℕ) (y : X) → slice_get (xs ++ x ∷ []) i ≡ Some y →
    (slice_get xs i ≡ Some y) ⊎ ((i ≡ length xs) × (y ≡ x))
pushed_cases {X} xs x i y e = split (appended_cases xs (x ∷ []) i y e)
  where
    one : (k : ℕ) → i ≡ length xs + k → slice_get (x ∷ []) k ≡ Some y → (i ≡ length xs) × (y ≡ x)
    one zero a h = ((omega (arith, a)), sym (same_Some x y h))
    one (suc k) a h = absurd (none-some y h)

    split : (slice_get xs i ≡ Some y) ⊎ ((k : ℕ) × (i ≡ length xs + k) × (slice_get (x ∷ []) k ≡ Some y)) → (slice_get xs i ≡ Some y) ⊎ ((i ≡ length xs) × (y ≡ x))
    split (inl a) = inl a
    split (inr b) = inr (one b.0 b.1 b.2)

-- Mapped

pub mapped_parts : {X Y : Type 0} (f : X → Y) (xs : List X) (i : ℕ) (y : Y) → slice_get (map f xs) i ≡ Some y → (x : X) × (slice_get xs i ≡ Some x) × (y ≡ f x)
mapped_parts f xs i y e = map_parts f (slice_get xs i) y (sym (slice_get-map f xs i) ∙ e)

pub mapped_some : {X Y : Type 0} (f : X → Y) (xs : List X) (i : ℕ) (x : X) → slice_get xs i ≡ Some x → slice_get (map f xs) i ≡ Some (f x)
mapped_some f xs i x e = slice_get-map f xs i ∙ ap (option_map f) e

pub mapped_below : {X Y : Type 0} (f : X → Y) (xs : List X) (i : ℕ) (d : X) → i < length xs → slice_get (map f xs) i ≡ Some (f (get_or xs i d))
mapped_below f xs i d lt = mapped_some f xs i (get_or xs i d) (slice_get-get_or xs i d lt)

-- Changed at a place

pub set_there : {X : Type 0} (xs : List X) (k : ℕ) (z : X) → k < length xs → slice_get (set xs k z) k ≡ Some z
set_there [] k z h = absurd (omega (arith, h))
set_there (x ∷ xs) zero z h = refl
set_there (x ∷ xs) (suc k) z h = set_there xs k z (omega (arith, h))

pub set_elsewhere : {X : Type 0} (xs : List X) (k i : ℕ) (z : X) → (i ≡ k → ⊥) → slice_get (set xs k z) i ≡ slice_get xs i
set_elsewhere [] k i z n = refl
set_elsewhere (x ∷ xs) zero zero z n = absurd (n refl)
set_elsewhere (x ∷ xs) zero (suc i) z n = refl
set_elsewhere (x ∷ xs) (suc k) zero z n = refl
set_elsewhere (x ∷ xs) (suc k) (suc i) z n = set_elsewhere xs k i z (λ e. n (ap suc e))

pub get_or-set : {X : Type 0} (xs : List X) (i s : ℕ) (x d : X) → i < length xs → get_or (set xs i x) s d ≡ cond (i == s) x (get_or xs s d)
get_or-set xs i s x d within = elim (cases_eq s i) [
  | inl same ↦ ap (λ (k : ℕ). get_or (set xs i x) k d) same ∙ get_or-set_same xs i x d within ∙ sym (ap (λ (b : Bool). cond b x (get_or xs s d)) (eq-eqb i s (sym same)))
  | inr other ↦ get_or-set_other xs i s x d other ∙ sym (ap (λ (b : Bool). cond b x (get_or xs s d)) (ne_eqb i s (λ q. other (sym q))))
]

-- One element more

pub taken_more : {X : Type 0} (xs : List X) (k : ℕ) (x : X) → slice_get xs k ≡ Some x → take (k + 1) xs ≡ take k xs ++ x ∷ []
taken_more xs k x e = take_more xs k x (slice_get_within xs k x e) ∙ ap (λ y. take k xs ++ y ∷ []) (get_or_from_slice_get xs k x x e)

-- what is left from an element on
pub drop_some_suc : {X : Type 0} (xs : List X) (k : ℕ) (x : X) → slice_get xs k ≡ Some x → drop k xs ≡ x ∷ drop (suc k) xs
drop_some_suc [] k x h = absurd (none-some x h)
drop_some_suc (y ∷ ys) zero x h = ap (λ z. z ∷ ys) (same_Some y x h)
drop_some_suc (y ∷ ys) (suc k) x h = drop_some_suc ys k x h

pub drop_some : {X : Type 0} (xs : List X) (k : ℕ) (x : X) → slice_get xs k ≡ Some x → drop k xs ≡ x ∷ drop (k + 1) xs
drop_some xs k x h = rw (add-one k) (drop_some_suc xs k x h)

-- one more element is mapped
map_more_suc : {X : Type 0} (f : X → X) (i : ℕ) (xs : List X) (d : X) → i < length xs → set (map f (take i xs) ++ drop i xs) i (f (get_or (map f (take i xs) ++ drop i xs) i d)) ≡ map f (take (suc i) xs) ++ drop (suc i) xs
map_more_suc f zero [] d h = refl
map_more_suc f zero (y ∷ ys) d h = refl
map_more_suc f (suc i) [] d h = refl
map_more_suc f (suc i) (y ∷ ys) d h = ap (λ zs. f y ∷ zs) (map_more_suc f i ys d (omega arith))

pub map_more : {X : Type 0} (f : X → X) (i : ℕ) (xs now : List X) (d z : X) → now ≡ map f (take i xs) ++ drop i xs → i < length xs → z ≡ f (get_or now i d) → set now i z ≡ map f (take (i + 1) xs) ++ drop (i + 1) xs
map_more f i xs now d z is h w = rw (w, is, add-one i) (map_more_suc f i xs d h)
