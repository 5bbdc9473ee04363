-- The bytes of a stack, of which those at the end are kept and the others are zero.
use Rattle.std.proofs.Common.{◌≡◌, ℕ, Some, ◌+◌, ◌-◌, ◌/◌, ◌%◌, ◌^◌, ◌<◌, ◌≤◌, List, [], ◌∷◌, ◌++◌, length, set, take, drop, zero, suc, Bool, true, cond, refl, ap, sym, ◌∙◌, arith, length-set, length-append}
use Rattle.std.specs.Prelude.{replicate, slice_get}
use Rattle.std.proofs.lemmas.List.{length-replicate, take_all}
use Rattle.exec_run.specs.Regions.{filled, AreZeros, IsFrom, IsPutAt, with_number}
use Rattle.exec_run.proofs.Regions.{from_drop}

pub filled_length : (n : ℕ) (bytes : List ℕ) → length bytes ≤ n → length (filled n bytes) ≡ n
unfolding filled
filled_length n bytes less = omega (arith, length-append (replicate (n - length bytes) 0) bytes, length-replicate {A = ℕ} (n - length bytes) 0)

get-zeros : (m : ℕ) (bytes : List ℕ) (i : ℕ) → i < m → slice_get (replicate m 0 ++ bytes) i ≡ Some 0
get-zeros zero bytes i less = absurd (omega arith)
get-zeros (suc m) bytes zero less = refl
get-zeros (suc m) bytes (suc i) less = get-zeros m bytes i (omega arith)

get-after : (m : ℕ) (bytes : List ℕ) (i : ℕ) → slice_get (replicate m 0 ++ bytes) (m + i) ≡ slice_get bytes i
get-after zero bytes i = ap (slice_get bytes) (let e : zero + i ≡ i = omega arith in e)
get-after (suc m) bytes i = ap (slice_get (replicate (suc m) 0 ++ bytes)) (let e : suc m + i ≡ suc (m + i) = omega arith in e) ∙ get-after m bytes i

set-after : (m : ℕ) (bytes : List ℕ) (i b : ℕ) → set (replicate m 0 ++ bytes) (m + i) b ≡ replicate m 0 ++ set bytes i b
set-after zero bytes i b = ap (λ k. set bytes k b) (let e : zero + i ≡ i = omega arith in e)
set-after (suc m) bytes i b =
    ap (λ k. set (replicate (suc m) 0 ++ bytes) k b) (let e : suc m + i ≡ suc (m + i) = omega arith in e) ∙ ap (λ xs. 0 ∷ xs) (set-after m bytes i b)

zeros-join : (r m : ℕ) (bytes : List ℕ) → replicate r 0 ++ (replicate m 0 ++ bytes) ≡ replicate (r + m) 0 ++ bytes
zeros-join zero m bytes = ap (λ k. replicate k 0 ++ bytes) (let e : m ≡ zero + m = omega arith in e)
zeros-join (suc r) m bytes =
    ap (λ xs. 0 ∷ xs) (zeros-join r m bytes) ∙ ap (λ k. replicate k 0 ++ bytes) (let e : suc (r + m) ≡ suc r + m = omega arith in e)

-- what isn't kept is zero, and what is kept stands at the end
filled_low : (n : ℕ) (bytes : List ℕ) (i : ℕ) → i + length bytes < n → slice_get (filled n bytes) i ≡ Some 0
unfolding filled
filled_low n bytes i less = get-zeros (n - length bytes) bytes i (omega arith)

filled_high : (n : ℕ) (bytes : List ℕ) (place i : ℕ) → place + length bytes ≡ n → slice_get (filled n bytes) (place + i) ≡ slice_get bytes i
unfolding filled
filled_high n bytes place i is =
    ap (λ m. slice_get (replicate m 0 ++ bytes) (place + i)) (let e : n - length bytes ≡ place = omega arith in e) ∙ get-after place bytes i

-- no bytes kept
pub filled_none : (n : ℕ) → AreZeros (filled n []) n
filled_none n = record { long = filled_length n [] (omega arith); zero_at = λ k less. filled_low n [] k (omega arith) }

-- more bytes kept
pub filled_more : (n m : ℕ) (bytes : List ℕ) → m + length bytes ≤ n → filled n (replicate m 0 ++ bytes) ≡ filled n bytes
unfolding filled
filled_more n m bytes less =
    zeros-join (n - length (replicate m 0 ++ bytes)) m bytes
    ∙ ap (λ k. replicate k 0 ++ bytes) (let e : n - length (replicate m 0 ++ bytes) + m ≡ n - length bytes = omega (arith, length-append (replicate m 0) bytes, length-replicate {A = ℕ} m 0) in e)

-- bytes at the front that change places with the zero bytes after them
pub turned : (bytes more new : List ℕ) (m kept : ℕ) → kept ≡ length bytes → more ≡ bytes ++ replicate m 0 → new ≡ drop kept more ++ take kept more → new ≡ replicate m 0 ++ bytes
turned bytes more new m kept is long turn =
    turn ∙ ap (λ k. drop k more ++ take k more) is ∙ ap (λ xs. drop (length bytes) xs ++ take (length bytes) xs) long
    ∙ ap (λ xs. xs ++ take (length bytes) (bytes ++ replicate m 0)) (after bytes (replicate m 0)) ∙ ap (λ xs. replicate m 0 ++ xs) (before bytes (replicate m 0))
  where
    after : (xs ys : List ℕ) → drop (length xs) (xs ++ ys) ≡ ys
    after [] ys = refl
    after (x ∷ xs) ys = after xs ys

    before : (xs ys : List ℕ) → take (length xs) (xs ++ ys) ≡ xs
    before [] ys = refl
    before (x ∷ xs) ys = ap (λ zs. x ∷ zs) (before xs ys)

pub resized : {X : Type 0} (x : X) (items new : List X) (ok : Bool) (n m len : ℕ) → ok ≡ true → length items ≤ n → len ≡ length items → m ≡ n - length items → new ≡ cond ok (take n items ++ replicate (n - len) x) items → new ≡ items ++ replicate m x
resized x items new ok n m len done less long is e =
    e ∙ ap (λ b. cond b (take n items ++ replicate (n - len) x) items) done
    ∙ ap (λ xs. xs ++ replicate (n - len) x) (take_all n items less)
    ∙ ap (λ k. items ++ replicate k x) (let f : n - len ≡ m = omega (arith, long, is) in f)

-- a byte written where bytes are kept, and several
filled_set : (n : ℕ) (bytes : List ℕ) (place i b : ℕ) → place + length bytes ≡ n → filled n (set bytes i b) ≡ set (filled n bytes) (place + i) b
unfolding filled
filled_set n bytes place i b is =
    ap (λ m. replicate m 0 ++ set bytes i b) (let e : n - length (set bytes i b) ≡ place = omega (arith, length-set bytes i b) in e)
    ∙ sym (set-after place bytes i b)
    ∙ ap (λ m. set (replicate m 0 ++ bytes) (place + i) b) (let e : place ≡ n - length bytes = omega arith in e)

filled_number : (n : ℕ) (bytes : List ℕ) (place i width value : ℕ) → place + length bytes ≡ n → filled n (with_number bytes i width value) ≡ with_number (filled n bytes) (place + i) width value
unfolding with_number
filled_number n bytes place i zero value is = refl
filled_number n bytes place i (suc width) value is =
    filled_number n (set bytes i (value % 2 ^ 8)) place (i + 1) width (value / 2 ^ 8) (omega (arith, length-set bytes i (value % 2 ^ 8)))
    ∙ ap (λ bs. with_number bs (place + (i + 1)) width (value / 2 ^ 8)) (filled_set n bytes place i (value % 2 ^ 8) is)
    ∙ ap (λ p. with_number (set (filled n bytes) (place + i) (value % 2 ^ 8)) p width (value / 2 ^ 8)) (let e : place + (i + 1) ≡ place + i + 1 = omega arith in e)

-- what is read from a place on: bytes that are kept, or zero bytes below them
pub kept_from : (n : ℕ) (bytes : List ℕ) (at place p : ℕ) (rest : List ℕ) → place + length bytes ≡ n → p < length bytes → at ≡ place + p → rest ≡ drop p bytes → IsFrom (filled n bytes) at rest
kept_from n bytes at place p rest is less here same =
    let from = from_drop bytes p rest less same in
    let long = filled_length n bytes (omega arith) in
    record {
      some = from.some;
      within = omega (arith, from.within);
      same = λ j below.
          from.same j below ∙ sym (ap (slice_get (filled n bytes)) (let e : at + j ≡ place + (p + j) = omega arith in e) ∙ filled_high n bytes place (p + j) is);
    }

pub zeros_from : (n : ℕ) (bytes : List ℕ) (at : ℕ) (rest : List ℕ) → AreZeros rest (length rest) → 0 < length rest → at + length rest + length bytes ≤ n → IsFrom (filled n bytes) at rest
zeros_from n bytes at rest zeros some within =
    let long = filled_length n bytes (omega arith) in
    record {
      some = some;
      within = omega arith;
      same = λ j below. zeros.zero_at j below ∙ sym (filled_low n bytes (at + j) (omega arith));
    }

-- what is written where bytes are kept
pub put_kept : (n : ℕ) (bytes new : List ℕ) (at place i width value : ℕ) → place + length bytes ≡ n → at ≡ place + i → at + width ≤ n → new ≡ with_number bytes i width value → IsPutAt (filled n bytes) (filled n new) at width value
put_kept n bytes new at place i width value is here fits written =
    let long = filled_length n bytes (omega arith) in
    record {
      fits = omega arith;
      written = ap (filled n) written ∙ filled_number n bytes place i width value is ∙ ap (λ p. with_number (filled n bytes) p width value) (sym here);
    }

pub set_kept : (n : ℕ) (bytes : List ℕ) (at place i byte : ℕ) → place + length bytes ≡ n → at ≡ place + i → filled n (set bytes i byte) ≡ set (filled n bytes) at byte
set_kept n bytes at place i byte is here = filled_set n bytes place i byte is ∙ ap (λ p. set (filled n bytes) p byte) (sym here)

-- the first of some zero bytes
pub taken_zeros : (n m k : ℕ) → k < length (take n (replicate {A = ℕ} m 0)) → slice_get {X = ℕ} (take n (replicate m 0)) k ≡ Some 0
taken_zeros zero m k less = absurd (omega arith)
taken_zeros (suc n) zero k less = absurd (omega arith)
taken_zeros (suc n) (suc m) zero less = refl
taken_zeros (suc n) (suc m) (suc k) less = taken_zeros n m k (omega arith)
