-- The numbers of the queries that settle, in rising order.
use Rattle.std.proofs.Common.{◌≡◌, ◌≢◌, ⊎_elim, ℕ, Bool, true, false, Option, ◌+◌, ◌<◌, ◌≤◌, List, [], ◌∷◌, ◌++◌, length, get_or, zero, suc, refl, ap, sym, ◌∙◌, cond, subst, arith}
use Rattle.std.specs.Prelude.{◌==◌}
use Rattle.std.specs.List.Sorted.{IsNonDecreasing}
use Rattle.std.proofs.lemmas.Bool.Decides.{eqb_tells}
use Rattle.session_model.specs.Query.{Stand}
use Rattle.session_model.specs.declared.rows.Query.{Query}
use Rattle.query_book.specs.declared.ends.QueryEnd.{QueryEnd}
use Rattle.query_book.specs.Counts.{count}
use Rattle.query_book.specs.Marks.{one_if}
use Rattle.query_book.specs.Ledger.{settles, settling}
use Rattle.query_book.proofs.Parts.{count_same, count_apart}

-- each number is at least m, and none is less than the one before it
abbrev pub Rising : ℕ → List ℕ → Type 0
Rising m [] = Unit {0}
Rising m (x ∷ xs) = (m ≤ x) × Rising x xs

rising_from : (m : ℕ) (xs : List ℕ) → ((d : ℕ) → 0 < length xs → m ≤ get_or xs 0 d) → IsNonDecreasing xs → Rising m xs
rising_from m [] low sorted = tt
rising_from m (x ∷ xs) low sorted = (low 0 (omega arith), rising_from x xs (λ d less. sorted 0 1 d (omega arith) (omega (arith, less))) (λ i j d le less. sorted (suc i) (suc j) d (omega (arith, le)) (omega (arith, less))))

pub rising : (xs : List ℕ) → IsNonDecreasing xs → Rising 0 xs
rising xs sorted = rising_from 0 xs (λ d less. omega arith) sorted

rising_less : (m n : ℕ) (xs : List ℕ) → m ≤ n → Rising n xs → Rising m xs
rising_less m n [] less r = tt
rising_less m n (x ∷ xs) less r = (omega (arith, less, r.0), r.1)

-- what stands in a rising list is no less
rising_least : (m j : ℕ) (xs : List ℕ) → Rising m xs → 0 < count j xs → m ≤ j
rising_least m j [] r pos = absurd (omega (arith, pos))
rising_least m j (x ∷ xs) r pos =
    ⊎_elim (λ (e : ((x == j) ≡ true) × (x ≡ j)). omega (arith, e.1, r.0))
    (λ (e : ((x == j) ≡ false) × (x ≢ j)). let c : count j (x ∷ xs) ≡ count j xs = count_apart j x xs e.1 in let h : x ≤ j = rising_least x j xs r.1 (omega (arith, c, pos)) in omega (arith, h, r.0))
    (eqb_tells x j)

-- the query of this number, from the front, settles
abbrev pub settles_at : (ℕ → Stand) → ℕ → List Query → List (Option QueryEnd) → Bool
settles_at s n [] ends = false
settles_at s n (q ∷ qs) [] = false
settles_at s zero (q ∷ qs) (end ∷ ends) = settles s q end
settles_at s (suc n) (q ∷ qs) (end ∷ ends) = settles_at s n qs ends

nothing : (k : ℕ) (xs : List ℕ) → Rising k xs → ((n : ℕ) → count (n + k) xs ≡ 0) → xs ≡ []
nothing k [] r none = refl
nothing k (x ∷ xs) r none = absurd (let d = above k x r.0 in let c : count x (x ∷ xs) ≡ suc (count x xs) = count_same x xs in let z : count x (x ∷ xs) ≡ 0 = subst (λ j. count j (x ∷ xs) ≡ 0) d.1 (none d.0) in omega (arith, c, z))
  where
    above : (k x : ℕ) → k ≤ x → (n : ℕ) × (n + k ≡ x)
    above zero x le = (x, omega arith)
    above (suc k) zero le = absurd (omega (arith, le))
    above (suc k) (suc x) le = let d = above k x (omega (arith, le)) in (d.0, omega (arith, d.1))

-- a rising list without k, which is the least that may stand there
rising_above : (k : ℕ) (xs : List ℕ) → Rising k xs → count k xs ≡ 0 → Rising (suc k) xs
rising_above k [] r none = tt
rising_above k (x ∷ xs) r none = (⊎_elim (λ (f : ((x == k) ≡ true) × (x ≡ k)). absurd (let d : count x (x ∷ xs) ≡ suc (count x xs) = count_same x xs in let g : count x (x ∷ xs) ≡ 0 = subst (λ j. count j (x ∷ xs) ≡ 0) (sym f.1) none in omega (arith, d, g))) (λ (f : ((x == k) ≡ false) × (x ≢ k)). omega (arith, r.0, f.1)) (eqb_tells x k), r.1)

shift : (n k : ℕ) → n + suc k ≡ suc n + k
shift n k = omega arith

-- a rising list in which k stands once begins with k
first_is : (k x : ℕ) (xs : List ℕ) → Rising k (x ∷ xs) → count k (x ∷ xs) ≡ 1 → x ≡ k
first_is k x xs r c = ⊎_elim (λ (f : ((x == k) ≡ true) × (x ≡ k)). f.1) (λ (f : ((x == k) ≡ false) × (x ≢ k)). absurd (let d : count k (x ∷ xs) ≡ count k xs = count_apart k x xs f.1 in let h : x ≤ k = rising_least x k xs r.1 (omega (arith, c, d)) in f.1 (omega (arith, h, r.0)))) (eqb_tells x k)

exactly_step : (k : ℕ) (sett : ℕ → Bool) (behind : List ℕ) (xs : List ℕ) → ((ys : List ℕ) → Rising (suc k) ys → ((n : ℕ) → count (n + suc k) ys ≡ one_if (sett (suc n))) → ys ≡ behind) → Rising k xs → ((n : ℕ) → count (n + k) xs ≡ one_if (sett n)) → (b : Bool) → sett 0 ≡ b → xs ≡ cond b (k ∷ []) [] ++ behind
exactly_step k sett behind [] rec r is true e = absurd (let c : 0 ≡ one_if (sett 0) = is 0 in let d : one_if (sett 0) ≡ 1 = ap one_if e in omega (arith, c, d))
exactly_step k sett behind (x ∷ xs) rec r is true e =
    let z : 0 + k ≡ k = omega arith in
    let c : count k (x ∷ xs) ≡ 1 = subst (λ j. count j (x ∷ xs) ≡ 1) z (is 0 ∙ ap one_if e) in
    let here : x ≡ k = first_is k x xs r c in
    let rest : count k xs ≡ 0 = let d : count k (k ∷ xs) ≡ suc (count k xs) = count_same k xs in let f : count k (k ∷ xs) ≡ 1 = subst (λ y. count k (y ∷ xs) ≡ 1) here c in omega (arith, d, f) in
    let low : Rising k xs = subst (λ y. Rising y xs) here r.1 in
    let more : xs ≡ behind = rec xs (rising_above k xs low rest) (λ n. subst (λ j. count j xs ≡ one_if (sett (suc n))) (sym (shift n k)) (sym (count_apart (suc n + k) x xs (λ f. omega (arith, f, here))) ∙ is (suc n))) in
    ap (λ y. y ∷ xs) here ∙ ap (λ l. k ∷ l) more
exactly_step k sett behind [] rec r is false e =
    let z : 0 + k ≡ k = omega arith in
    rec [] tt (λ n. subst (λ j. count j [] ≡ one_if (sett (suc n))) (sym (shift n k)) (is (suc n)))
exactly_step k sett behind (x ∷ xs) rec r is false e =
    let z : 0 + k ≡ k = omega arith in
    let none : count k (x ∷ xs) ≡ 0 = subst (λ j. count j (x ∷ xs) ≡ 0) z (is 0 ∙ ap one_if e) in
    rec (x ∷ xs) (rising_above k (x ∷ xs) r none) (λ n. subst (λ j. count j (x ∷ xs) ≡ one_if (sett (suc n))) (sym (shift n k)) (is (suc n)))

-- a rising list that has the numbers of those that settle, once each
pub exactly : (s : ℕ → Stand) (k : ℕ) (qs : List Query) (ends : List (Option QueryEnd)) (xs : List ℕ) → Rising k xs → ((n : ℕ) → count (n + k) xs ≡ one_if (settles_at s n qs ends)) → xs ≡ settling k s qs ends
exactly s k [] ends xs r is = nothing k xs r is
exactly s k (q ∷ qs) [] xs r is = nothing k xs r is
exactly s k (q ∷ qs) (end ∷ ends) xs r is =
    exactly_step k (λ n. settles_at s n (q ∷ qs) (end ∷ ends)) (settling (suc k) s qs ends) xs (λ ys low his. exactly s (suc k) qs ends ys low his) r is (settles s q end) refl
