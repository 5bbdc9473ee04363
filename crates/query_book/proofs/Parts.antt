-- Elements of lists by number.
use Rattle.std.proofs.Common.{◌≡◌, ◌≢◌, ◌⊎◌, inl, inr, ⊎_elim, ℕ, true, false, Option, Some, None, ◌+◌, ◌<◌, ◌≤◌, List, [], ◌∷◌, ◌++◌, length, get_or, set, map, replicate, take, drop, zero, suc, refl, ap, sym, ◌∙◌, cond, subst, arith}
use Rattle.std.specs.Prelude.{◌==◌, slice_get}
use Rattle.std.proofs.lemmas.Bool.Decides.{eqb_tells}
use Rattle.list_laws.proofs.Lists.{set_there}
use Rattle.orc_ids.specs.declared.ids.InstId.{InstId}
use Rattle.query_book.specs.Counts.{count, total, list_at}
use Rattle.query_book.specs.Lists.{HasLists}

pub get_push : {X : Type 0} (xs : List X) (x : X) (k : ℕ) → length xs ≢ k → slice_get (xs ++ x ∷ []) k ≡ slice_get xs k
get_push [] x zero apart = absurd (apart refl)
get_push [] x (suc k) apart = refl
get_push (y ∷ xs) x zero apart = refl
get_push (y ∷ xs) x (suc k) apart = get_push xs x k (λ e. apart (ap suc e))

pub list_here : (ls : List (List ℕ)) (i : ℕ) (l : List ℕ) → i < length ls → list_at (set ls i l) i ≡ l
list_here [] i l less = absurd (omega arith)
list_here (x ∷ ls) zero l less = refl
list_here (x ∷ ls) (suc i) l less = list_here ls i l (omega (arith, less))

pub list_other : (ls : List (List ℕ)) (i j : ℕ) (l : List ℕ) → j ≢ i → list_at (set ls i l) j ≡ list_at ls j
list_other [] i j l apart = refl
list_other (x ∷ ls) zero zero l apart = absurd (apart refl)
list_other (x ∷ ls) zero (suc j) l apart = refl
list_other (x ∷ ls) (suc i) zero l apart = refl
list_other (x ∷ ls) (suc i) (suc j) l apart = list_other ls i j l (λ e. apart (ap suc e))

pub total_set : (k : ℕ) (ls : List (List ℕ)) (i : ℕ) (l : List ℕ) → i < length ls → total k (set ls i l) + count k (list_at ls i) ≡ total k ls + count k l
total_set k [] i l less = absurd (omega arith)
total_set k (x ∷ ls) zero l less = omega arith
total_set k (x ∷ ls) (suc i) l less = let h : total k (set ls i l) + count k (list_at ls i) ≡ total k ls + count k l = total_set k ls i l (omega (arith, less)) in omega arith

pub past_list : (ls : List (List ℕ)) (i : ℕ) → length ls ≤ i → list_at ls i ≡ []
past_list [] i past = refl
past_list (l ∷ ls) zero past = absurd (omega (arith, past))
past_list (l ∷ ls) (suc i) past = past_list ls i (omega (arith, past))

-- empty lists at the end change nothing
pub more_lists : (ls : List (List ℕ)) (n i : ℕ) → list_at (ls ++ replicate n []) i ≡ list_at ls i
more_lists [] zero i = refl
more_lists [] (suc n) zero = refl
more_lists [] (suc n) (suc i) = more_lists [] n i
more_lists (l ∷ ls) n zero = refl
more_lists (l ∷ ls) n (suc i) = more_lists ls n i

pub more_total : (k : ℕ) (ls : List (List ℕ)) (n : ℕ) → total k (ls ++ replicate n []) ≡ total k ls
more_total k [] zero = refl
more_total k [] (suc n) = omega (arith, more_total k [] n)
more_total k (l ∷ ls) n = ap (λ t. count k l + t) (more_total k ls n)

-- a query that is in one of the lists is counted
pub total_least : (k : ℕ) (ls : List (List ℕ)) (i : ℕ) → count k (list_at ls i) ≤ total k ls
total_least k [] i = omega arith
total_least k (l ∷ ls) zero = omega arith
total_least k (l ∷ ls) (suc i) = let h : count k (list_at ls i) ≤ total k ls = total_least k ls i in omega arith

pub total_none : (k : ℕ) (ls : List (List ℕ)) → ((i : ℕ) → count k (list_at ls i) ≡ 0) → total k ls ≡ 0
total_none k [] none = refl
total_none k (l ∷ ls) none =
    let here : count k l ≡ 0 = none 0 in
    let rest : total k ls ≡ 0 = total_none k ls (λ i. none (suc i)) in
    omega arith

pub get_other : {X : Type 0} (xs : List X) (i j : ℕ) (v : X) → i ≢ j → slice_get (set xs i v) j ≡ slice_get xs j
get_other [] i j v apart = refl
get_other (x ∷ xs) zero zero v apart = absurd (apart refl)
get_other (x ∷ xs) zero (suc j) v apart = refl
get_other (x ∷ xs) (suc i) zero v apart = refl
get_other (x ∷ xs) (suc i) (suc j) v apart = get_other xs i j v (λ e. apart (ap suc e))

-- what stands at j after a write to i
pub get_set : {X : Type 0} (xs : List X) (i j : ℕ) (v : X) → i < length xs → slice_get (set xs i v) j ≡ cond (i == j) (Some v) (slice_get xs j)
get_set xs i j v less =
    ⊎_elim (λ (e : ((i == j) ≡ true) × (i ≡ j)). subst (λ n. slice_get (set xs i v) n ≡ Some v) e.1 (set_there xs i v less) ∙ sym (ap (λ b. cond b (Some v) (slice_get xs j)) e.0))
    (λ (e : ((i == j) ≡ false) × (i ≢ j)). get_other xs i j v e.1 ∙ sym (ap (λ b. cond b (Some v) (slice_get xs j)) e.0))
    (eqb_tells i j)

pub get_after_set : {X : Type 0} (xs : List X) (i j : ℕ) (v y : X) → slice_get (set xs i v) j ≡ Some y → (v ≡ y) ⊎ (slice_get xs j ≡ Some y)
get_after_set [] i j v y is = absurd cc
get_after_set (x ∷ xs) zero zero v y is = inl cc
get_after_set (x ∷ xs) zero (suc j) v y is = inr is
get_after_set (x ∷ xs) (suc i) zero v y is = inr is
get_after_set (x ∷ xs) (suc i) (suc j) v y is = get_after_set xs i j v y is

pub list_of : {X : Type 0} (f : X → List ℕ) (xs : List X) (i : ℕ) (x : X) → slice_get xs i ≡ Some x → list_at (map f xs) i ≡ f x
list_of f [] i x is = absurd cc
list_of f (y ∷ ys) zero x is = let e : y ≡ x = cc in ap f e
list_of f (y ∷ ys) (suc i) x is = list_of f ys i x is

pub count-push : (k : ℕ) (xs : List ℕ) (x : ℕ) → count k (xs ++ x ∷ []) ≡ count k xs + cond (x == k) 1 0
count-push k [] x = omega arith
count-push k (y ∷ ys) x = let h : count k (ys ++ x ∷ []) ≡ count k ys + cond (x == k) 1 0 = count-push k ys x in omega arith

pub count_same : (k : ℕ) (xs : List ℕ) → count k (k ∷ xs) ≡ suc (count k xs)
count_same k xs = ⊎_elim (λ (e : ((k == k) ≡ true) × (k ≡ k)). ap (λ b. cond b 1 0 + count k xs) e.0 ∙ (omega arith)) (λ (e : ((k == k) ≡ false) × (k ≢ k)). absurd (e.1 refl)) (eqb_tells k k)

pub count_apart : (k x : ℕ) (xs : List ℕ) → x ≢ k → count k (x ∷ xs) ≡ count k xs
count_apart k x xs apart = ⊎_elim (λ (e : ((x == k) ≡ true) × (x ≡ k)). absurd (apart e.1)) (λ (e : ((x == k) ≡ false) × (x ≢ k)). ap (λ b. cond b 1 0 + count k xs) e.0 ∙ (omega arith)) (eqb_tells x k)

-- how many of the numbers are below n
counts_to : ℕ → List ℕ → ℕ
counts_to zero xs = 0
counts_to (suc n) xs = count n xs + counts_to n xs

counts_few : (n : ℕ) (xs : List ℕ) → ((k : ℕ) → count k xs ≤ 1) → counts_to n xs ≤ n
unfolding counts_to
counts_few zero xs once = omega arith
counts_few (suc n) xs once = let h : counts_to n xs ≤ n = counts_few n xs once in let c : count n xs ≤ 1 = once n in omega arith

counts_skip : (n x : ℕ) (xs : List ℕ) → n ≤ x → counts_to n (x ∷ xs) ≡ counts_to n xs
unfolding counts_to
counts_skip zero x xs less = refl
counts_skip (suc n) x xs less =
    let h : counts_to n (x ∷ xs) ≡ counts_to n xs = counts_skip n x xs (omega (arith, less)) in
    let c : count n (x ∷ xs) ≡ count n xs = count_apart n x xs (λ e. omega (arith, less, e)) in
    omega (arith, h, c)

counts_cons : (n x : ℕ) (xs : List ℕ) → x < n → counts_to n (x ∷ xs) ≡ suc (counts_to n xs)
unfolding counts_to
counts_cons zero x xs less = absurd (omega (arith, less))
counts_cons (suc n) x xs less =
    ⊎_elim (λ (e : ((x == n) ≡ true) × (x ≡ n)).
    let h : counts_to n (x ∷ xs) ≡ counts_to n xs = counts_skip n x xs (omega (arith, e.1)) in
    let c : count n (x ∷ xs) ≡ suc (count n xs) = subst (λ y. count n (y ∷ xs) ≡ suc (count n xs)) (sym e.1) (count_same n xs) in
    omega (arith, h, c))
    (λ (e : ((x == n) ≡ false) × (x ≢ n)).
    let h : counts_to n (x ∷ xs) ≡ suc (counts_to n xs) = counts_cons n x xs (omega (arith, less, e.1)) in
    let c : count n (x ∷ xs) ≡ count n xs = count_apart n x xs e.1 in
    omega (arith, h, c))
    (eqb_tells x n)

counts_all : (n : ℕ) (xs : List ℕ) → ((k : ℕ) → 0 < count k xs → k < n) → length xs ≤ counts_to n xs
counts_all n [] below = omega arith
counts_all n (x ∷ xs) below =
    let h : length xs ≤ counts_to n xs = counts_all n xs (λ k pos. below k (omega (arith, pos))) in
    let less : x < n = below x (let c : count x (x ∷ xs) ≡ suc (count x xs) = count_same x xs in omega (arith, c)) in
    let c : counts_to n (x ∷ xs) ≡ suc (counts_to n xs) = counts_cons n x xs less in
    omega (arith, h, c)

-- numbers below n, none of them twice, are at most n
pub length_few : (n : ℕ) (xs : List ℕ) → ((k : ℕ) → count k xs ≤ 1) → ((k : ℕ) → 0 < count k xs → k < n) → length xs ≤ n
length_few n xs once below = let a : length xs ≤ counts_to n xs = counts_all n xs below in let b : counts_to n xs ≤ n = counts_few n xs once in omega (arith, a, b)

pub take_more : {X : Type 0} (xs : List X) (i : ℕ) (d : X) → i < length xs → take (suc i) xs ≡ take i xs ++ get_or xs i d ∷ []
take_more [] i d less = absurd (omega arith)
take_more (x ∷ xs) zero d less = refl
take_more (x ∷ xs) (suc i) d less = ap (λ l. x ∷ l) (take_more xs i d (omega (arith, less)))

pub drop_first : {X : Type 0} (xs : List X) (i : ℕ) (d : X) → i < length xs → drop i xs ≡ get_or xs i d ∷ drop (suc i) xs
drop_first [] i d less = absurd (omega arith)
drop_first (x ∷ xs) zero d less = refl
drop_first (x ∷ xs) (suc i) d less = drop_first xs i d (omega (arith, less))

has_more : (a b : List (List ℕ)) (os : List (Option InstId)) → length a ≤ length b → HasLists a os → HasLists b os
has_more a b [] more has = tt
has_more a b (None ∷ os) more has = has_more a b os more has
has_more a b (Some i ∷ os) more has = (omega (arith, more, has.0), has_more a b os more has.1)

has_push : (ls : List (List ℕ)) (os : List (Option InstId)) (o : Option InstId) → HasLists ls os → HasLists ls (o ∷ []) → HasLists ls (os ++ o ∷ [])
has_push ls [] o has one = one
has_push ls (None ∷ os) o has one = has_push ls os o has one
has_push ls (Some i ∷ os) o has one = (has.0, has_push ls os o has.1 one)

-- the lists of some instances, and of one more
pub has_more_lists : (a b : List (List ℕ)) (done done' : List (Option InstId)) (o : Option InstId) → length a ≤ length b → HasLists a done → HasLists b (o ∷ []) → done' ≡ done ++ o ∷ [] → HasLists b done'
has_more_lists a b done done' o more has one next = subst (HasLists b) (sym next) (has_push b done o (has_more a b done more has) one)
