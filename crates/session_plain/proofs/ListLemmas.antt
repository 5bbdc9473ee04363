-- Lists that a loop writes one element at a time.
use Rattle.std.specs.Prelude.{slice_get, Some, None, Option, option_map, option_and_then, Bool, false, ◌||◌}
use Rattle.session_model.specs.Lists.{first_some, or_else, changed_at, numbered}
use Rattle.std.specs.List.{list_any}
use Rattle.std.specs.Option.{option_map_or}
use Rattle.std.proofs.lemmas.Option.{same_Some}
use Rattle.std.proofs.Common.{◌≡◌, ℕ, zero, suc, ◌+◌, ◌<◌, ◌≤◌, List, [], ◌∷◌, ◌++◌, map, take, drop, set, get_or, length, refl, ap, sym, ◌∙◌, add-one, add-zero, zero-add, append_assoc, arith}

-- whether some element from k on passes
any_rest_suc : {X : Type 0} (test : X → Bool) (xs : List X) (k : ℕ) → k < length xs → list_any test (drop k xs) ≡ (option_map_or test (slice_get xs k) false || list_any test (drop (suc k) xs))
any_rest_suc test [] k h = absurd (omega arith)
any_rest_suc test (y ∷ ys) zero h = refl
any_rest_suc test (y ∷ ys) (suc k) h = any_rest_suc test ys k (omega arith)

pub any_rest : {X : Type 0} (test : X → Bool) (xs : List X) (k : ℕ) → k < length xs → list_any test (drop k xs) ≡ (option_map_or test (slice_get xs k) false || list_any test (drop (k + 1) xs))
any_rest test xs k h = rw (add-one k) (any_rest_suc test xs k h)

-- what is chosen from k on
first_rest_suc : {X Y : Type 0} (f : X → Option Y) (xs : List X) (k : ℕ) → k < length xs → first_some f (drop k xs) ≡ or_else (option_and_then f (slice_get xs k)) (first_some f (drop (suc k) xs))
first_rest_suc f [] k h = absurd (omega arith)
first_rest_suc f (y ∷ ys) zero h = refl
first_rest_suc f (y ∷ ys) (suc k) h = first_rest_suc f ys k (omega arith)

pub first_rest : {X Y : Type 0} (f : X → Option Y) (xs : List X) (k : ℕ) → k < length xs → first_some f (drop k xs) ≡ or_else (option_and_then f (slice_get xs k)) (first_some f (drop (k + 1) xs))
first_rest f xs k h = rw (add-one k) (first_rest_suc f xs k h)

-- what is mapped from k on
map_rest_suc : {X Y : Type 0} (f : X → Y) (xs : List X) (k : ℕ) (d : Y) → k < length xs → map f (drop k xs) ≡ option_map_or f (slice_get xs k) d ∷ map f (drop (suc k) xs)
map_rest_suc f [] k d h = absurd (omega arith)
map_rest_suc f (y ∷ ys) zero d h = refl
map_rest_suc f (y ∷ ys) (suc k) d h = map_rest_suc f ys k d (omega arith)

pub map_rest : {X Y : Type 0} (f : X → Y) (xs : List X) (k : ℕ) (d : Y) → k < length xs → map f (drop k xs) ≡ option_map_or f (slice_get xs k) d ∷ map f (drop (k + 1) xs)
map_rest f xs k d h = rw (add-one k) (map_rest_suc f xs k d h)

-- one more element of what is mapped
mapped_cons : {X Y : Type 0} (f : X → Y) (o : Option X) (b : Y) → Some b ≡ option_map f o → option_map_or f o b ≡ b
mapped_cons f None b h = refl
mapped_cons f (Some x) b h = sym (same_Some b (f x) h)

pub mapped_more : {X Y : Type 0} (f : X → Y) (xs : List X) (k : ℕ) (b : Y) (done : List Y) (all : List Y) → k < length xs → Some b ≡ option_map f (slice_get xs k) → done ++ map f (drop k xs) ≡ all → (done ++ b ∷ []) ++ map f (drop (k + 1) xs) ≡ all
mapped_more f xs k b done all h is so_far =
    append_assoc done (b ∷ []) (map f (drop (k + 1) xs))
    ∙ ap (λ ys. done ++ ys) (ap (λ y. y ∷ map f (drop (k + 1) xs)) (sym (mapped_cons f (slice_get xs k) b is)) ∙ sym (map_rest f xs k b h))
    ∙ so_far

-- the same seen through a map
pub map_set : {X Y : Type 0} (g : X → Y) (f : Y → Y) (xs : List X) (k : ℕ) (d z : X) → k < length xs → g z ≡ f (g (get_or xs k d)) → map g (set xs k z) ≡ changed_at k f (map g xs)
map_set g f [] k d z h is = absurd (omega arith)
map_set g f (x ∷ xs) zero d z h is = ap (λ y. y ∷ map g xs) is
map_set g f (x ∷ xs) (suc k) d z h is = ap (λ ys. g x ∷ ys) (map_set g f xs k d z (omega arith) is)

-- changed by functions that agree
pub numbered_same : {X Y : Type 0} (f g : ℕ → X → Y) (k : ℕ) (xs : List X) → ((i : ℕ) (x : X) → f i x ≡ g i x) → numbered f k xs ≡ numbered g k xs
numbered_same f g k [] h = refl
numbered_same f g k (x ∷ xs) h = ap (λ y. y ∷ numbered f (k + 1) xs) (h k x) ∙ ap (λ ys. g k x ∷ ys) (numbered_same f g (k + 1) xs h)

-- one more element is mapped, seen through another map
seen_more_suc : {X Y : Type 0} (g : X → Y) (f : Y → Y) (i : ℕ) (xs now : List X) (d z : X) → map g now ≡ map f (map g (take i xs)) ++ map g (drop i xs) → i < length xs → g z ≡ f (g (get_or now i d)) → map g (set now i z) ≡ map f (map g (take (suc i) xs)) ++ map g (drop (suc i) xs)
seen_more_suc g f i [] now d z is h w = absurd (omega arith)
seen_more_suc g f zero (x ∷ xs) [] d z is h w = absurd (cc is)
seen_more_suc g f zero (x ∷ xs) (y ∷ ys) d z is h w =
    let a : g y ≡ g x = cc is in
    let b : map g ys ≡ map g xs = cc is in
    ap (λ v. v ∷ map g ys) (w ∙ ap f a) ∙ ap (λ vs. f (g x) ∷ vs) b
seen_more_suc g f (suc i) (x ∷ xs) [] d z is h w = absurd (cc is)
seen_more_suc g f (suc i) (x ∷ xs) (y ∷ ys) d z is h w =
    let a : g y ≡ f (g x) = cc is in
    let b : map g ys ≡ map f (map g (take i xs)) ++ map g (drop i xs) = cc is in
    ap (λ v. v ∷ map g (set ys i z)) a ∙ ap (λ vs. f (g x) ∷ vs) (seen_more_suc g f i xs ys d z b (omega arith) w)

pub seen_more : {X Y : Type 0} (g : X → Y) (f : Y → Y) (i : ℕ) (xs now : List X) (d z : X) → map g now ≡ map f (map g (take i xs)) ++ map g (drop i xs) → i < length xs → g z ≡ f (g (get_or now i d)) → map g (set now i z) ≡ map f (map g (take (i + 1) xs)) ++ map g (drop (i + 1) xs)
seen_more g f i xs now d z is h w = rw (add-one i) (seen_more_suc g f i xs now d z is h w)

-- nothing is changed behind the list, seen through a map
pub map_past : {X Y : Type 0} (g : X → Y) (f : Y → Y) (xs : List X) (k : ℕ) → length xs ≤ k → map g xs ≡ changed_at k f (map g xs)
map_past g f [] k h = refl
map_past g f (x ∷ xs) zero h = absurd (omega arith)
map_past g f (x ∷ xs) (suc k) h = ap (λ ys. g x ∷ ys) (map_past g f xs k (omega arith))

-- one more element is changed by a function of its number, seen through a map
seen_numbered_suc : {X Y : Type 0} (g : X → Y) (f : ℕ → Y → Y) (n i : ℕ) (xs now : List X) (d z : X) → map g now ≡ numbered f n (map g (take i xs)) ++ map g (drop i xs) → i < length xs → g z ≡ f (n + i) (g (get_or now i d)) → map g (set now i z) ≡ numbered f n (map g (take (suc i) xs)) ++ map g (drop (suc i) xs)
seen_numbered_suc g f n i [] now d z is h w = absurd (omega arith)
seen_numbered_suc g f n zero (x ∷ xs) [] d z is h w = absurd (cc is)
seen_numbered_suc g f n zero (x ∷ xs) (y ∷ ys) d z is h w =
    let a : g y ≡ g x = cc is in
    let b : map g ys ≡ map g xs = cc is in
    ap (λ v. v ∷ map g ys) (w ∙ ap (λ k. f k (g y)) (add-zero n) ∙ ap (f n) a) ∙ ap (λ vs. f n (g x) ∷ vs) b
seen_numbered_suc g f n (suc i) (x ∷ xs) [] d z is h w = absurd (cc is)
seen_numbered_suc g f n (suc i) (x ∷ xs) (y ∷ ys) d z is h w =
    let a : g y ≡ f n (g x) = cc is in
    let b : map g ys ≡ numbered f (n + 1) (map g (take i xs)) ++ map g (drop i xs) = cc is in
    let e : n + suc i ≡ (n + 1) + i = omega arith in
    ap (λ v. v ∷ map g (set ys i z)) a ∙ ap (λ vs. f n (g x) ∷ vs) (seen_numbered_suc g f (n + 1) i xs ys d z b (omega arith) (w ∙ ap (λ k. f k (g (get_or ys i d))) e))

pub seen_numbered : {X Y : Type 0} (g : X → Y) (f : ℕ → Y → Y) (i : ℕ) (xs now : List X) (d z : X) → map g now ≡ numbered f 0 (map g (take i xs)) ++ map g (drop i xs) → i < length xs → g z ≡ f i (g (get_or now i d)) → map g (set now i z) ≡ numbered f 0 (map g (take (i + 1) xs)) ++ map g (drop (i + 1) xs)
seen_numbered g f i xs now d z is h w = rw (add-one i) (seen_numbered_suc g f 0 i xs now d z is h (w ∙ ap (λ k. f k (g (get_or now i d))) (sym (zero-add i))))
