-- What a write to one mark, and a number more among those met, do.
use Rattle.std.proofs.Common.{◌≡◌, ◌≢◌, ⊎_elim, ℕ, Bool, true, false, Option, Some, ◌+◌, ◌<◌, ◌≤◌, List, [], ◌∷◌, ◌++◌, length, set, zero, suc, refl, ap, sym, ◌∙◌, cond, subst, arith, length-set, length-append}
use Rattle.std.specs.Prelude.{◌==◌, ◌||◌, ◌&&◌, nat_lt, slice_get, sum_by}
use Rattle.std.specs.Option.{option_map_or}
use Rattle.std.specs.List.Sorted.{IsPermutation}
use Rattle.std.proofs.lemmas.Bool.Decides.{eqb_tells, leb_tells}
use Rattle.std.proofs.lemmas.List.Sums.{sum_by-cons}
use Rattle.std.proofs.lemmas.List.Sorted.{sum_by-IsPermutation}
use Rattle.list_laws.proofs.Lists.{pushed_last}
use Rattle.query_book.specs.declared.marks.Mark.{Mark}
use Rattle.query_book.specs.Counts.{count}
use Rattle.query_book.specs.Marks.{left_at, found_at, one_if, IsMarked}
use Rattle.query_book.proofs.Parts.{get_set, count-push, length_few, count_same, count_apart, get_push}

pub left_set : (marks : List Mark) (at k : ℕ) (m : Mark) → at < length marks → left_at (set marks at m) k ≡ cond (at == k) m.left (left_at marks k)
left_set marks at k m less = ap (λ (o : Option Mark). option_map_or (λ m. m.left) o 0) (get_set marks at k m less) ∙ step (at == k)
  where
    step : (b : Bool) → option_map_or (λ m. m.left) (cond b (Some m) (slice_get marks k)) 0 ≡ cond b m.left (left_at marks k)
    step true = refl
    step false = refl

pub found_set : (marks : List Mark) (at k : ℕ) (m : Mark) → at < length marks → found_at (set marks at m) k ≡ cond (at == k) m.found (found_at marks k)
found_set marks at k m less = ap (λ (o : Option Mark). option_map_or (λ m. m.found) o false) (get_set marks at k m less) ∙ step (at == k)
  where
    step : (b : Bool) → option_map_or (λ m. m.found) (cond b (Some m) (slice_get marks k)) false ≡ cond b m.found (found_at marks k)
    step true = refl
    step false = refl

pub found_past : (marks : List Mark) (k : ℕ) → length marks ≤ k → found_at marks k ≡ false
found_past [] k past = refl
found_past (m ∷ marks) zero past = absurd (omega (arith, past))
found_past (m ∷ marks) (suc k) past = found_past marks k (omega (arith, past))

pub found_within : (marks : List Mark) (k : ℕ) → found_at marks k ≡ true → k < length marks
found_within [] k is = absurd cc
found_within (m ∷ marks) zero is = omega arith
found_within (m ∷ marks) (suc k) is = let h : k < length marks = found_within marks k is in omega arith

pub left_within : (marks : List Mark) (k : ℕ) → 0 < left_at marks k → k < length marks
left_within [] k is = absurd (omega (arith, is))
left_within (m ∷ marks) zero is = omega arith
left_within (m ∷ marks) (suc k) is = let h : k < length marks = left_within marks k is in omega arith

-- the mark that was read
pub left_read : (marks : List Mark) (k : ℕ) (m : Mark) → slice_get marks k ≡ Some m → left_at marks k ≡ m.left
left_read marks k m is = ap (λ (o : Option Mark). option_map_or (λ m. m.left) o 0) is

pub found_read : (marks : List Mark) (k : ℕ) (m : Mark) → slice_get marks k ≡ Some m → found_at marks k ≡ m.found
found_read marks k m is = ap (λ (o : Option Mark). option_map_or (λ m. m.found) o false) is

-- a query that wasn't found has room among those that are met
pub met_fits : (marks : List Mark) (met : List ℕ) (room query : ℕ) → IsMarked marks met room → query < length marks → found_at marks query ≡ false → length met < room
met_fits marks met room query m less new =
    let all : length (query ∷ met) ≤ length marks = length_few (length marks) (query ∷ met) once below in
    omega (arith, all, m.fits)
  where
    none : count query met ≡ 0
    none = let h : count query met ≤ one_if (found_at marks query) = m.listed query in let e : one_if (found_at marks query) ≡ 0 = ap one_if new in omega (arith, h, e)

    small : (b : Bool) → one_if b ≤ 1
    small true = omega arith
    small false = omega arith

    once : (k : ℕ) → count k (query ∷ met) ≤ 1
    once k = ⊎_elim (λ (e : ((query == k) ≡ true) × (query ≡ k)). subst (λ j. count j (query ∷ met) ≤ 1) e.1 (let c : count query (query ∷ met) ≡ suc (count query met) = count_same query met in omega (arith, c, none)))
        (λ (e : ((query == k) ≡ false) × (query ≢ k)). let c : count k (query ∷ met) ≡ count k met = count_apart k query met e.1 in let h : count k met ≤ one_if (found_at marks k) = m.listed k in let s : one_if (found_at marks k) ≤ 1 = small (found_at marks k) in omega (arith, c, h, s))
        (eqb_tells query k)

    marked : (k : ℕ) (b : Bool) → found_at marks k ≡ b → 0 < one_if b → k < length marks
    marked k true e pos = found_within marks k e
    marked k false e pos = absurd (omega (arith, pos))

    below : (k : ℕ) → 0 < count k (query ∷ met) → k < length marks
    below k pos = ⊎_elim (λ (e : ((query == k) ≡ true) × (query ≡ k)). subst (λ j. j < length marks) e.1 less)
        (λ (e : ((query == k) ≡ false) × (query ≢ k)). let c : count k (query ∷ met) ≡ count k met = count_apart k query met e.1 in let h : count k met ≤ one_if (found_at marks k) = m.listed k in marked k (found_at marks k) refl (omega (arith, c, h, pos)))
        (eqb_tells query k)

or_true : (b : Bool) → (b || true) ≡ true
or_true true = refl
or_true false = refl

or_false : (b : Bool) → (b || false) ≡ b
or_false true = refl
or_false false = refl

-- as the code marks a query
pub founds_marked : (marks : List Mark) (at k : ℕ) (m : Mark) → at < length marks → m.found ≡ true → found_at (set marks at m) k ≡ (found_at marks k || at == k)
founds_marked marks at k m less is_found = found_set marks at k m less ∙ ap (λ b. cond (at == k) b (found_at marks k)) is_found ∙ step (at == k)
  where
    step : (b : Bool) → cond b true (found_at marks k) ≡ (found_at marks k || b)
    step true = sym (or_true (found_at marks k))
    step false = sym (or_false (found_at marks k))

pub lefts_kept : (marks : List Mark) (at k : ℕ) (m old : Mark) → at < length marks → slice_get marks at ≡ Some old → m.left ≡ old.left → left_at (set marks at m) k ≡ left_at marks k
lefts_kept marks at k m old less is same =
    left_set marks at k m less ∙
    ⊎_elim (λ (e : ((at == k) ≡ true) × (at ≡ k)). ap (λ b. cond b m.left (left_at marks k)) e.0 ∙ same ∙ sym (left_read marks at old is) ∙ ap (λ j. left_at marks j) e.1)
    (λ (e : ((at == k) ≡ false) × (at ≢ k)). ap (λ b. cond b m.left (left_at marks k)) e.0)
    (eqb_tells at k)

-- the count of those met goes with the marks
pub met_marked : (marks : List Mark) (met met' : List ℕ) (at k : ℕ) (m : Mark) → at < length marks → m.found ≡ true → found_at marks at ≡ false → met' ≡ met ++ at ∷ [] → count k met' + one_if (found_at marks k) ≡ count k met + one_if (found_at (set marks at m) k)
met_marked marks met met' at k m less is_found new more =
    let a : count k met' ≡ count k met + one_if (at == k) = ap (λ xs. count k xs) more ∙ count-push k met at in
    let b : found_at (set marks at m) k ≡ (found_at marks k || at == k) = founds_marked marks at k m less is_found in
    let c : one_if (at == k) + one_if (found_at marks k) ≡ one_if (found_at marks k || at == k) =
    ⊎_elim (λ (e : ((at == k) ≡ true) × (at ≡ k)).
    let f : found_at marks k ≡ false = subst (λ j. found_at marks j ≡ false) e.1 new in
    ap (λ b. one_if b + one_if (found_at marks k)) e.0 ∙ ap (λ b. 1 + one_if b) f ∙ sym (ap (λ b. one_if (found_at marks k || b)) e.0 ∙ ap one_if (or_true (found_at marks k))))
    (λ (e : ((at == k) ≡ false) × (at ≢ k)).
    ap (λ b. one_if b + one_if (found_at marks k)) e.0 ∙ (omega arith) ∙ sym (ap (λ b. one_if (found_at marks k || b)) e.0 ∙ ap one_if (or_false (found_at marks k))))
    (eqb_tells at k) in
    let d : one_if (found_at (set marks at m) k) ≡ one_if (found_at marks k || at == k) = ap one_if b in
    omega (arith, a, c, d)

pub marked_more : (marks : List Mark) (met met' : List ℕ) (room at : ℕ) (m : Mark) → IsMarked marks met room → at < length marks → m.found ≡ true → found_at marks at ≡ false → met' ≡ met ++ at ∷ [] → IsMarked (set marks at m) met' room
marked_more marks met met' room at m old less is_found new more = record {
  listed = λ k. let a : count k met' + one_if (found_at marks k) ≡ count k met + one_if (found_at (set marks at m) k) = met_marked marks met met' at k m less is_found new more in let b : count k met ≤ one_if (found_at marks k) = old.listed k in omega (arith, a, b);
  fits = let n : length (set marks at m) ≡ length marks = length-set marks at m in omega (arith, n, old.fits);
}

-- a query that was found stays found
pub found_already : (marks : List Mark) (at k : ℕ) → found_at marks at ≡ true → found_at marks k ≡ (found_at marks k || at == k)
found_already marks at k is_found =
    ⊎_elim (λ (e : ((at == k) ≡ true) × (at ≡ k)). subst (λ j. found_at marks j ≡ true) e.1 is_found ∙ sym (ap (λ b. found_at marks k || b) e.0 ∙ or_true (found_at marks k)))
    (λ (e : ((at == k) ≡ false) × (at ≢ k)). sym (ap (λ b. found_at marks k || b) e.0 ∙ or_false (found_at marks k)))
    (eqb_tells at k)

-- a new mark
pub found_push : (marks : List Mark) (m : Mark) (k : ℕ) → found_at (marks ++ m ∷ []) k ≡ (found_at marks k || (length marks == k && m.found))
found_push marks m k =
    ⊎_elim (λ (e : ((length marks == k) ≡ true) × (length marks ≡ k)).
    subst (λ j. found_at (marks ++ m ∷ []) j ≡ m.found) e.1 (found_read (marks ++ m ∷ []) (length marks) m (pushed_last marks m))
    ∙ sym (ap (λ b. b || (length marks == k && m.found)) (found_past marks k (omega (arith, e.1))) ∙ ap (λ b. b && m.found) e.0))
    (λ (e : ((length marks == k) ≡ false) × (length marks ≢ k)).
    ap (λ (o : Option Mark). option_map_or (λ m. m.found) o false) (get_push marks m k e.1)
    ∙ sym (ap (λ b. found_at marks k || (b && m.found)) e.0 ∙ or_false (found_at marks k)))
    (eqb_tells (length marks) k)

pub marked_push : (marks : List Mark) (met met' : List ℕ) (room : ℕ) (m : Mark) → IsMarked marks met room → m.found ≡ true → met' ≡ met ++ length marks ∷ [] → length marks < room → IsMarked (marks ++ m ∷ []) met' room
marked_push marks met met' room m old is_found more fits = record {
  listed = λ k.
      let a : count k met' ≡ count k met + one_if (length marks == k) = ap (λ xs. count k xs) more ∙ count-push k met (length marks) in
      let b : one_if (found_at (marks ++ m ∷ []) k) ≡ one_if (found_at marks k || length marks == k) = ap one_if (found_push marks m k ∙ ap (λ f. found_at marks k || (length marks == k && f)) is_found ∙ ap (λ f. found_at marks k || f) (and_true (length marks == k))) in
      let c : count k met ≤ one_if (found_at marks k) = old.listed k in
      let d : one_if (found_at marks k) + one_if (length marks == k) ≤ one_if (found_at marks k || length marks == k) =
      ⊎_elim (λ (e : ((length marks == k) ≡ true) × (length marks ≡ k)).
      let f : found_at marks k ≡ false = found_past marks k (omega (arith, e.1)) in
      let g : one_if (found_at marks k) ≡ 0 = ap one_if f in
      let h : one_if (length marks == k) ≡ 1 = ap one_if e.0 in
      let i : one_if (found_at marks k || length marks == k) ≡ 1 = ap (λ b. one_if (found_at marks k || b)) e.0 ∙ ap one_if (or_true (found_at marks k)) in
      omega (arith, g, h, i))
      (λ (e : ((length marks == k) ≡ false) × (length marks ≢ k)).
      let h : one_if (length marks == k) ≡ 0 = ap one_if e.0 in
      let i : one_if (found_at marks k || length marks == k) ≡ one_if (found_at marks k) = ap (λ b. one_if (found_at marks k || b)) e.0 ∙ ap one_if (or_false (found_at marks k)) in
      omega (arith, h, i))
      (eqb_tells (length marks) k) in
      omega (arith, a, b, c, d);
  fits = let n : length (marks ++ m ∷ []) ≡ length marks + 1 = length-append marks (m ∷ []) in omega (arith, n, fits);
}
  where
    and_true : (b : Bool) → (b && true) ≡ b
    and_true true = refl
    and_true false = refl

pub marked_quiet : (marks : List Mark) (met : List ℕ) (room : ℕ) (m : Mark) → IsMarked marks met room → length marks < room → IsMarked (marks ++ m ∷ []) met room
marked_quiet marks met room m old fits = record {
  listed = λ k. let a : count k met ≤ one_if (found_at marks k) = old.listed k in let b : one_if (found_at marks k) ≤ one_if (found_at (marks ++ m ∷ []) k) = rw (found_push marks m k) (more (found_at marks k) _) in omega (arith, a, b);
  fits = let n : length (marks ++ m ∷ []) ≡ length marks + 1 = length-append marks (m ∷ []) in omega (arith, n, fits);
}
  where
    more : (a b : Bool) → one_if a ≤ one_if (a || b)
    more true b = omega arith
    more false b = omega arith

-- the numbers in another order
count_sum : (k : ℕ) (xs : List ℕ) → count k xs ≡ sum_by (λ x. cond (x == k) 1 0) xs
count_sum k [] = refl
count_sum k (x ∷ xs) = ap (λ n. cond (x == k) 1 0 + n) (count_sum k xs) ∙ sym (sum_by-cons (λ x. cond (x == k) 1 0) x xs)

pub count_sorted : (k : ℕ) (xs ys : List ℕ) → IsPermutation xs ys → count k ys ≡ count k xs
count_sorted k xs ys p = count_sum k ys ∙ sum_by-IsPermutation (λ x. cond (x == k) 1 0) xs ys p ∙ sym (count_sum k xs)

pub marked_sorted : (marks : List Mark) (xs ys : List ℕ) (room : ℕ) → IsMarked marks xs room → IsPermutation xs ys → IsMarked marks ys room
marked_sorted marks xs ys room m p = record {
  listed = λ k. let c : count k ys ≡ count k xs = count_sorted k xs ys p in let h : count k xs ≤ one_if (found_at marks k) = m.listed k in omega (arith, c, h);
  fits = m.fits;
}

pub counted_once : (marks : List Mark) (xs : List ℕ) (room k : ℕ) → IsMarked marks xs room → count k xs ≤ 1
counted_once marks xs room k m = let h : count k xs ≤ one_if (found_at marks k) = m.listed k in let s : one_if (found_at marks k) ≤ 1 = small (found_at marks k) in omega (arith, h, s)
  where
    small : (b : Bool) → one_if b ≤ 1
    small true = omega arith
    small false = omega arith

both_less : (a b c d : ℕ) → (nat_lt a b && nat_lt c d) ≡ true → (a < b) × (c < d)
both_less a b c d room =
    ⊎_elim (λ (e : (nat_lt a b ≡ true) × (a < b)).
    ⊎_elim (λ (f : (nat_lt c d ≡ true) × (c < d)). (e.1, f.1))
    (λ (f : (nat_lt c d ≡ false) × (d < suc c)). let g : false ≡ true = sym (ap (λ x. nat_lt a b && x) f.0 ∙ ap (λ x. x && false) e.0) ∙ room in absurd (cc))
    (leb_tells (suc c) d))
    (λ (e : (nat_lt a b ≡ false) × (b < suc a)). let g : false ≡ true = sym (ap (λ x. x && nat_lt c d) e.0) ∙ room in absurd (cc))
    (leb_tells (suc a) b)

pub met_few : (marks : List Mark) (met : List ℕ) (room : ℕ) → IsMarked marks met room → length met ≤ length marks
met_few marks met room m = length_few (length marks) met (λ k. counted_once marks met room k m) (λ k pos. let h : count k met ≤ one_if (found_at marks k) = m.listed k in is_there k (found_at marks k) refl (omega (arith, h, pos)))
  where
    is_there : (k : ℕ) (b : Bool) → found_at marks k ≡ b → 0 < one_if b → k < length marks
    is_there k true e pos = found_within marks k e
    is_there k false e pos = absurd (omega (arith, pos))

-- where there is room for one more mark, there is room for it among those met
pub room_for : (marks : List Mark) (met : List ℕ) (room n spare : ℕ) → IsMarked marks met room → n ≡ length marks → (nat_lt n spare && nat_lt n room) ≡ true → (length met < room) × (length marks < room)
room_for marks met room n spare m same has =
    let b : (n < spare) × (n < room) = both_less n spare n room has in
    let f : length met ≤ length marks = met_few marks met room m in
    (omega (arith, b.1, f, same), omega (arith, b.1, same))
