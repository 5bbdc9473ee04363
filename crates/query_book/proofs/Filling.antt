-- What is made of a list, item by item.
use Rattle.std.proofs.Common.{◌≡◌, ⊎_elim, ℕ, true, false, Option, Some, None, ◌<◌, ◌≤◌, List, [], ◌∷◌, ◌++◌, length, get_or, map, take, zero, suc, refl, ap, sym, arith}
use Rattle.std.specs.Prelude.{nat_lt, slice_get, is_some, option_map, IfSome, Result, Ok, Err, OnErr}
use Rattle.std.proofs.lemmas.Bool.Decides.{leb_tells}
use Rattle.std.proofs.lemmas.Option.{slice_get_read}

pub mapped_length : {X Y : Type 0} (f : X → Y) (xs : List X) (n : ℕ) → n ≤ length xs → length (map f (take n xs)) ≡ n
mapped_length f [] zero less = refl
mapped_length f [] (suc n) less = absurd (omega (arith, less))
mapped_length f (x ∷ xs) zero less = refl
mapped_length f (x ∷ xs) (suc n) less = ap suc (mapped_length f xs n (omega (arith, less)))

pub mapped_more : {X Y : Type 0} (f : X → Y) (xs : List X) (i : ℕ) (d : X) → i < length xs → map f (take (suc i) xs) ≡ map f (take i xs) ++ f (get_or xs i d) ∷ []
mapped_more f [] i d less = absurd (omega (arith, less))
mapped_more f (x ∷ xs) zero d less = refl
mapped_more f (x ∷ xs) (suc i) d less = ap (λ l. f x ∷ l) (mapped_more f xs i d (omega (arith, less)))

pub mapped_past : {X Y : Type 0} (f : X → Y) (xs : List X) (k : ℕ) → length xs ≤ k → slice_get (map f xs) k ≡ None
mapped_past f [] k past = refl
mapped_past f (x ∷ xs) zero past = absurd (omega (arith, past))
mapped_past f (x ∷ xs) (suc k) past = mapped_past f xs k (omega (arith, past))

-- what a test of a number says
pub not_less : (a b : ℕ) → false ≡ nat_lt a b → b ≤ a
not_less a b e =
    ⊎_elim (λ (h : (nat_lt a b ≡ true) × (a < b)). let f : nat_lt a b ≡ true = h.0 in absurd (cc))
    (λ (h : (nat_lt a b ≡ false) × (b < suc a)). omega (arith, h.1))
    (leb_tells (suc a) b)

pub is_less : (a b : ℕ) → true ≡ nat_lt a b → a < b
is_less a b e =
    ⊎_elim (λ (h : (nat_lt a b ≡ true) × (a < b)). h.1)
    (λ (h : (nat_lt a b ≡ false) × (b < suc a)). let f : nat_lt a b ≡ false = h.0 in absurd (cc))
    (leb_tells (suc a) b)

get_past : {X : Type 0} (xs : List X) (k : ℕ) → length xs ≤ k → slice_get xs k ≡ None
get_past [] k past = refl
get_past (x ∷ xs) zero past = absurd (omega (arith, past))
get_past (x ∷ xs) (suc k) past = get_past xs k (omega (arith, past))

-- what was looked up
pub looked_up : {B X : Type 0} (r : Option B) (f : B → X) (xs : List X) (k : ℕ) → is_some r ≡ nat_lt k (length xs) → IfSome r (λ x. f x ≡ get_or xs k (f x)) → option_map f r ≡ slice_get xs k
looked_up None f xs k is value = sym (get_past xs k (not_less k (length xs) is))
looked_up (Some x) f xs k is value = sym (slice_get_read xs (length xs) k (f x) refl (is_less k (length xs) is) value)

pub err_so : {T E P Q : Type 0} (r : Result T E) → (P → Q) → OnErr r P → OnErr r Q
err_so (Ok x) so e = tt
err_so (Err x) so e = so e
