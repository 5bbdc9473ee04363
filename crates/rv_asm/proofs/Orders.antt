-- The order of symbols, one more at a time.
use Rattle.std.proofs.Common.{◌≡◌, ℕ, zero, suc, ◌+◌, ◌<◌, ◌≤◌, Bool, true, false, cond, eqb, ◌&&◌, not, if◌then◌else◌, List, [], ◌∷◌, ◌++◌, length, get_or, take, map, refl, sym, ap, ◌∙◌, arith}
use Rattle.std.specs.List.{All, filter, range_with_len}
use Rattle.std.proofs.lemmas.Bool.Decides.{nat_tests}
use Rattle.std.proofs.lemmas.List.{append_assoc, take_more, take_all, length-take-le}
use Rattle.std.proofs.lemmas.List.Elements.{All-filter, All-append}
use Rattle.std.proofs.lemmas.List.FromFn.{filter_of_map_range_with_len_more}
use Rattle.asm_state.specs.Symbols.{Symbols}
use Rattle.rv_asm.specs.Symbols.{is_local, others_below, other_at, place_from, noted}

numbers-map : (a m : ℕ) → map (λ i. i) (range_with_len a m) ≡ range_with_len a m
numbers-map a zero = refl
numbers-map a (suc m) = ap (λ (xs : List ℕ). a ∷ xs) (numbers-map (a + 1) m)

pub others_more : (s : Symbols) (n : ℕ) → others_below s (n + 1) ≡ others_below s n ++ cond (not (is_local s n)) (n ∷ []) []
others_more s n =
    let more = filter_of_map_range_with_len_more (λ (k : ℕ). not (is_local s k)) (λ (k : ℕ). k) 0 n n (omega arith) in
    rw (← numbers-map 0 (n + 1), ← numbers-map 0 n) more

-- numbers below a limit
below : (a n : ℕ) → All (λ k. k < a + n) (range_with_len a n)
below a zero k d lt = absurd (omega (arith, lt))
below a (suc n) zero d lt = omega arith
below a (suc n) (suc k) d lt = grind (arith, below (a + 1) n k d)

pub others_inside : (s : Symbols) (n : ℕ) → All (λ k. k < n) (others_below s n)
others_inside s n = All-filter (λ k. not (is_local s k)) (λ k. k < n) (range_with_len 0 n) (λ k d lt. omega (arith, below 0 n k d lt))

pub all_inside : (s : Symbols) (labels : List ℕ) (n : ℕ) → All (λ k. k < n) labels → All (λ k. k < n) (filter (is_local s) labels ++ others_below s n)
all_inside s labels n h =
    All-append (λ k. k < n) (filter (is_local s) labels) (others_below s n) (All-filter (is_local s) (λ k. k < n) labels h) (others_inside s n)

-- ---- the places of numbers

false_and : (u : Bool) (a b : ℕ) → (if u && false then a else b) ≡ b
false_and true a b = refl
false_and false a b = refl

-- one more number has the place after the others, unless it stands among them
pub place_push : (k n m : ℕ) (ms : List ℕ) → 0 < k → place_from k n (ms ++ m ∷ []) ≡ (if eqb m n && eqb (place_from k n ms) 0 then k + length ms else place_from k n ms)
place_push k n m [] positive = chosen (eqb m n) where
  chosen : (t : Bool) → (if t then k else 0) ≡ (if t && true then k + 0 else 0)
  chosen true = omega arith
  chosen false = refl
place_push k n m (x ∷ ms) positive = chosen (eqb x n) (place_push (k + 1) n m ms (omega arith)) where
  next : k + suc (length ms) ≡ k + 1 + length ms
  next = omega arith

  chosen : (t : Bool) → place_from (k + 1) n (ms ++ m ∷ []) ≡ (if eqb m n && eqb (place_from (k + 1) n ms) 0 then k + 1 + length ms else place_from (k + 1) n ms) → (if t then k else place_from (k + 1) n (ms ++ m ∷ [])) ≡ (if eqb m n && eqb (if t then k else place_from (k + 1) n ms) 0 then k + suc (length ms) else if t then k else place_from (k + 1) n ms)
  chosen true more = let other : eqb k 0 ≡ false = grind (arith, nat_tests, positive) in rw other (sym (false_and (eqb m n) (k + suc (length ms)) k))
  chosen false more = rw next more

-- one more number, unless it is local
pub others_step : (s : Symbols) (n : ℕ) (before items new : List ℕ) → items ≡ before ++ others_below s n → new ≡ items ++ other_at s n → new ≡ before ++ others_below s (n + 1)
others_step s n before items new so_far next =
    next ∙ ap (λ os. os ++ other_at s n) so_far ∙ append_assoc before (others_below s n) (other_at s n) ∙ ap (λ os. before ++ os) (sym (others_more s n ∙ ap (λ os. others_below s n ++ os) (same (is_local s n)))) where
      same : (t : Bool) → cond (not t) (n ∷ []) [] ≡ (if t then [] else n ∷ [])
      same true = refl
      same false = refl

-- ---- the entries, one number at a time

pub entries_more : (numbers : List ℕ) (i : ℕ) (d : ℕ) (entries new : ℕ → ℕ) → i < length numbers → ((n : ℕ) → entries n ≡ place_from 1 n (take i numbers)) → ((n : ℕ) → new n ≡ noted (get_or numbers i d) (i + 1) entries n) → (n : ℕ) → new n ≡ place_from 1 n (take (i + 1) numbers)
entries_more numbers i d entries new lt so_far next n =
    let long : length (take i numbers) ≡ i = length-take-le i numbers (omega (arith, lt)) in
    next n
    ∙ ap (λ e. if eqb (get_or numbers i d) n && eqb e 0 then i + 1 else e) (so_far n)
    ∙ ap (λ k. if eqb (get_or numbers i d) n && eqb (place_from 1 n (take i numbers)) 0 then k else place_from 1 n (take i numbers)) (entry i (length (take i numbers)) long)
    ∙ sym (place_push 1 n (get_or numbers i d) (take i numbers) (omega arith))
    ∙ ap (place_from 1 n) (sym (take_more numbers i d lt)) where
      entry : (i k : ℕ) → k ≡ i → i + 1 ≡ 1 + k
      entry i k is = omega (arith, is)

pub entries_all : (numbers : List ℕ) (i : ℕ) (entries : ℕ → ℕ) → length numbers ≤ i → ((n : ℕ) → entries n ≡ place_from 1 n (take i numbers)) → (n : ℕ) → entries n ≡ place_from 1 n numbers
entries_all numbers i entries done so_far n = so_far n ∙ ap (place_from 1 n) (take_all i numbers done)
