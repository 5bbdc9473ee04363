-- Placements that lie apart, cut in two: the gaps below them, and a placement put between them.
use Rattle.std.proofs.Common.{◌≡◌, ℕ, true, false, ◌+◌, ◌<◌, ◌≤◌, List, [], ◌∷◌, ◌++◌, length, refl, ap, sym, ◌∙◌, cond, arith, append_assoc}
use Rattle.std.specs.Prelude.{nat_lt}
use Rattle.code_memory.specs.declared.gaps.Gap.{Gap}
use Rattle.code_memory.specs.declared.placement.Placement.{Placement}
use Rattle.code_memory.specs.Gaps.{between, end_of, gaps_below, last_end}
use Rattle.code_memory.specs.Places.{AreBetween}
use Rattle.code_memory.proofs.Compared.{below_is, not_below}

abbrev pub gap_of : ℕ → ℕ → Gap
gap_of start end = record { start = start; end = end }

pub between_some : (start end : ℕ) → start < end → between start end ≡ record { start = start; end = end } ∷ []
between_some start end less = ap (λ b. cond b (gap_of start end ∷ []) []) (below_is start end less)

pub between_none : (start end : ℕ) → end ≤ start → between start end ≡ []
between_none start end over = ap (λ b. cond b (gap_of start end ∷ []) []) (not_below start end over)

-- where a first part of placements is followed by others
pub gaps-append : (low : ℕ) (xs ys : List Placement) → gaps_below low (xs ++ ys) ≡ gaps_below low xs ++ gaps_below (last_end low xs) ys
gaps-append low [] ys = refl
gaps-append low (x ∷ xs) ys =
    ap (λ gs. between low x.base ++ gs) (gaps-append (end_of x) xs ys) ∙ sym (append_assoc (between low x.base) (gaps_below (end_of x) xs) (gaps_below (last_end (end_of x) xs) ys))

pub last-append : (low : ℕ) (xs ys : List Placement) → last_end low (xs ++ ys) ≡ last_end (last_end low xs) ys
last-append low [] ys = refl
last-append low (x ∷ xs) ys = last-append (end_of x) xs ys

-- what stands after a first part lies above its end
pub apart_back : (low : ℕ) (xs ys : List Placement) (high : ℕ) → AreBetween low (xs ++ ys) high → AreBetween (last_end low xs) ys high
apart_back low [] ys high apart = apart
apart_back low (x ∷ xs) ys high apart = apart_back (end_of x) xs ys high apart.2

-- from a lower address on
pub apart_from : (low low' : ℕ) (xs : List Placement) (high : ℕ) → low' ≤ low → AreBetween low xs high → AreBetween low' xs high
apart_from low low' [] high below apart = omega arith
apart_from low low' (x ∷ xs) high below apart = (omega (arith, apart.0), apart.1, apart.2)

pub last_from : (low : ℕ) (xs : List Placement) (high : ℕ) → AreBetween low xs high → low ≤ last_end low xs
last_from low [] high apart = omega arith
last_from low (x ∷ xs) high apart = omega (arith, apart.0, last_from (end_of x) xs high apart.2)

pub last_to : (low : ℕ) (xs : List Placement) (high : ℕ) → AreBetween low xs high → last_end low xs ≤ high
last_to low [] high apart = apart
last_to low (x ∷ xs) high apart = last_to (end_of x) xs high apart.2

-- a first part lies below what follows
pub apart_front : (low : ℕ) (xs ys : List Placement) (high : ℕ) → AreBetween low (xs ++ ys) high → AreBetween low xs high
apart_front low [] ys high apart = omega (arith, last_from low ys high apart, last_to low ys high apart)
apart_front low (x ∷ xs) ys high apart = (apart.0, apart.1, apart_front (end_of x) xs ys high apart.2)

-- a placement between a first part and others
pub apart-insert : (low : ℕ) (xs : List Placement) (p : Placement) (ys : List Placement) (high : ℕ) → AreBetween low (xs ++ ys) high → last_end low xs ≤ p.base → 0 < p.shape.need → AreBetween (end_of p) ys high → AreBetween low (xs ++ p ∷ ys) high
apart-insert low [] p ys high apart above some back = (above, some, back)
apart-insert low (x ∷ xs) p ys high apart above some back = (apart.0, apart.1, apart-insert (end_of x) xs p ys high apart.2 above some back)

pub above_low : (low : ℕ) (xs : List Placement) (p : Placement) (ys : List Placement) (high : ℕ) → AreBetween low (xs ++ p ∷ ys) high → low ≤ p.base
above_low low [] p ys high apart = apart.0
above_low low (x ∷ xs) p ys high apart = omega (arith, apart.0, above_low (end_of x) xs p ys high apart.2)

-- the parts on both sides of a placement
pub apart_around : (low : ℕ) (xs : List Placement) (p : Placement) (ys : List Placement) (high : ℕ) → AreBetween low (xs ++ p ∷ ys) high → AreBetween (last_end low xs) (p ∷ ys) high
apart_around low xs p ys high apart = apart_back low xs (p ∷ ys) high apart

-- there are no more gaps than placements
length_between : (low high : ℕ) → length (between low high) ≤ 1
length_between low high = elim (nat_lt low high) as (λ b. length (cond b (gap_of low high ∷ []) []) ≤ 1) [ true ↦ omega arith | false ↦ omega arith ]

length_after : (xs ys : List Gap) → length xs ≤ 1 → length (xs ++ ys) ≤ 1 + length ys
length_after [] ys few = omega arith
length_after (x ∷ []) ys few = omega arith
length_after (x ∷ y ∷ xs) ys few = absurd (omega arith)

pub few_gaps : (low : ℕ) (ps : List Placement) → length (gaps_below low ps) ≤ length ps
few_gaps low [] = omega arith
few_gaps low (p ∷ ps) =
    omega (arith, length_after (between low p.base) (gaps_below (end_of p) ps) (length_between low p.base), few_gaps (end_of p) ps)

-- a placement ends below the end of all
pub around_fits : (low : ℕ) (xs : List Placement) (p : Placement) (ys : List Placement) (high : ℕ) → AreBetween low (xs ++ p ∷ ys) high → end_of p ≤ high
around_fits low xs p ys high apart =
    let around = apart_around low xs p ys high apart in
    omega (arith, last_from (end_of p) ys high around.2, last_to (end_of p) ys high around.2)
