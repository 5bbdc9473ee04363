-- Stretches of bytes, when bytes are written or added.
use Rattle.std.proofs.Common.{◌≡◌, ◌⊎◌, ⊎_elim, inl, inr, ℕ, ◌+◌, ◌/◌, ◌%◌, ◌^◌, ◌<◌, ◌≤◌, List, [], ◌∷◌, ◌++◌, length, set, take, drop, zero, suc, refl, ap, ◌∙◌, arith, length-set}
use Rattle.std.proofs.lemmas.List.{take_all}
use Rattle.exec_run.specs.Regions.{AreApartFrom, with_number}
use Rattle.exec_run.proofs.Writes.{number_length}

-- so many bytes from a place on
abbrev pub stretch : List ℕ → ℕ → ℕ → List ℕ
stretch pool place count = take count (drop place pool)

-- bytes added at the end
take_more : (pool more : List ℕ) (n : ℕ) → n ≤ length pool → take n (pool ++ more) ≡ take n pool
take_more pool more zero within = refl
take_more [] more (suc n) within = absurd (omega arith)
take_more (x ∷ pool) more (suc n) within = ap (λ xs. x ∷ xs) (take_more pool more n (omega arith))

pub stretch_more : (pool more : List ℕ) (place n : ℕ) → place + n ≤ length pool → stretch (pool ++ more) place n ≡ stretch pool place n
stretch_more pool more zero n within = take_more pool more n (omega arith)
stretch_more [] more (suc place) n within = absurd (omega arith)
stretch_more (x ∷ pool) more (suc place) n within = stretch_more pool more place n (omega arith)

pub stretch_new : (pool more : List ℕ) → stretch (pool ++ more) (length pool) (length more) ≡ more
stretch_new [] more = take_all (length more) more (omega arith)
stretch_new (x ∷ pool) more = stretch_new pool more

-- a byte written
take_set : (pool : List ℕ) (n i b : ℕ) → take n (set pool i b) ≡ set (take n pool) i b
take_set pool zero i b = refl
take_set [] (suc n) i b = refl
take_set (x ∷ pool) (suc n) zero b = refl
take_set (x ∷ pool) (suc n) (suc i) b = ap (λ xs. x ∷ xs) (take_set pool n i b)

stretch_set : (pool : List ℕ) (place n i b : ℕ) → stretch (set pool (place + i) b) place n ≡ set (stretch pool place n) i b
stretch_set pool zero n i b = ap (λ k. take n (set pool k b)) (let e : zero + i ≡ i = omega arith in e) ∙ take_set pool n i b
stretch_set [] (suc place) zero i b = refl
stretch_set [] (suc place) (suc n) i b = refl
stretch_set (x ∷ pool) (suc place) n i b =
    ap (λ k. stretch (set (x ∷ pool) k b) (suc place) n) (let e : suc place + i ≡ suc (place + i) = omega arith in e) ∙ stretch_set pool place n i b

take_below : (pool : List ℕ) (n i b : ℕ) → n ≤ i → take n (set pool i b) ≡ take n pool
take_below pool zero i b above = refl
take_below [] (suc n) i b above = refl
take_below (x ∷ pool) (suc n) zero b above = absurd (omega arith)
take_below (x ∷ pool) (suc n) (suc i) b above = ap (λ xs. x ∷ xs) (take_below pool n i b (omega arith))

set_away : (pool : List ℕ) (place n i b : ℕ) → (i < place) ⊎ (place + n ≤ i) → stretch (set pool i b) place n ≡ stretch pool place n
set_away pool zero n i b (inl below) = absurd (omega arith)
set_away pool zero n i b (inr above) = take_below pool n i b (omega arith)
set_away [] (suc place) n i b out = refl
set_away (x ∷ pool) (suc place) n zero b out = refl
set_away (x ∷ pool) (suc place) n (suc i) b (inl below) = set_away pool place n i b (inl (omega arith))
set_away (x ∷ pool) (suc place) n (suc i) b (inr above) = set_away pool place n i b (inr (omega arith))

-- a stretch is written, and those apart from it stay
pub record IsWritten (old new : List ℕ) (place count : ℕ) (bytes : List ℕ) : Type 0 where
  pub long : length new ≡ length old
  pub here : stretch new place count ≡ bytes
  pub elsewhere : (q m : ℕ) → AreApartFrom place count q m → stretch new q m ≡ stretch old q m

pub byte_written : (pool : List ℕ) (place count i b : ℕ) → i < count → IsWritten pool (set pool (place + i) b) place count (set (stretch pool place count) i b)
byte_written pool place count i b within = record {
  long = length-set pool (place + i) b;
  here = stretch_set pool place count i b;
  elsewhere = λ q m apart. set_away pool q m (place + i) b
      (⊎_elim (λ (after : place + count ≤ q). inl (let e : place + i < q = omega arith in e)) (λ (before : q + m ≤ place). inr (let e : q + m ≤ place + i = omega arith in e)) apart);
}

-- several bytes written
stretch_number : (pool : List ℕ) (place count i width value : ℕ) → stretch (with_number pool (place + i) width value) place count ≡ with_number (stretch pool place count) i width value
unfolding with_number
stretch_number pool place count i zero value = refl
stretch_number pool place count i (suc width) value =
    ap (λ k. stretch (with_number (set pool (place + i) (value % 2 ^ 8)) k width (value / 2 ^ 8)) place count) (let e : place + i + 1 ≡ place + (i + 1) = omega arith in e)
    ∙ stretch_number (set pool (place + i) (value % 2 ^ 8)) place count (i + 1) width (value / 2 ^ 8)
    ∙ ap (λ bs. with_number bs (i + 1) width (value / 2 ^ 8)) (stretch_set pool place count i (value % 2 ^ 8))

number_away : (pool : List ℕ) (q m i width value : ℕ) → (i + width ≤ q) ⊎ (q + m ≤ i) → stretch (with_number pool i width value) q m ≡ stretch pool q m
unfolding with_number
number_away pool q m i zero value out = refl
number_away pool q m i (suc width) value out =
    number_away (set pool i (value % 2 ^ 8)) q m (i + 1) width (value / 2 ^ 8)
    (⊎_elim (λ (below : i + suc width ≤ q). inl (let e : i + 1 + width ≤ q = omega arith in e)) (λ (above : q + m ≤ i). inr (let e : q + m ≤ i + 1 = omega arith in e)) out)
    ∙ set_away pool q m i (value % 2 ^ 8)
    (⊎_elim (λ (below : i + suc width ≤ q). inl (let e : i < q = omega arith in e)) (λ (above : q + m ≤ i). inr above) out)

pub number_written : (pool : List ℕ) (place count i width value : ℕ) → i + width ≤ count → IsWritten pool (with_number pool (place + i) width value) place count (with_number (stretch pool place count) i width value)
number_written pool place count i width value within = record {
  long = number_length pool (place + i) width value;
  here = stretch_number pool place count i width value;
  elsewhere = λ q m apart. number_away pool q m (place + i) width value
      (⊎_elim (λ (after : place + count ≤ q). inl (let e : place + i + width ≤ q = omega arith in e)) (λ (before : q + m ≤ place). inr (let e : q + m ≤ place + i = omega arith in e)) apart);
}

-- how many bytes a stretch has
pub stretch_length : (pool : List ℕ) (place count : ℕ) → place + count ≤ length pool → length (stretch pool place count) ≡ count
stretch_length pool zero zero within = refl
stretch_length [] zero (suc count) within = absurd (omega arith)
stretch_length (x ∷ pool) zero (suc count) within = omega (arith, stretch_length pool zero count (omega arith))
stretch_length [] (suc place) count within = absurd (omega arith)
stretch_length (x ∷ pool) (suc place) count within = stretch_length pool place count (omega arith)
