-- The deposited ranges as a list, below a base and from it on, as a placement is added, filled or taken away.
use Rattle.std.proofs.Common.{◌≡◌, ⊎_elim, ℕ, Bool, true, false, Option, Some, None, zero, suc, ◌+◌, ◌<◌, ◌≤◌, List, [], ◌∷◌, ◌++◌, length, take, get_or, refl, ap, sym, ◌∙◌, cond, subst, arith}
use Rattle.std.specs.Prelude.{nat_lt, ◌&&◌, filter, is_some, IfSome}
use Rattle.std.specs.Ordering.{nat_cmp, is_le}
use Rattle.std.specs.declared.ops.Bound.TheVariants.{Included, Unbounded}
use Rattle.std.specs.BTreeMap.Range.{range_contains}
use Rattle.std.specs.List.Sorted.{IsNonDecreasingBy, IsPartitionPoint}
use Rattle.std.specs.Map.{values_of}
use Rattle.std.proofs.lemmas.List.Elements.{filter-append}
use Rattle.code_memory.specs.Apart.{AreApart}
use Rattle.code_memory.specs.Gaps.{end_of}
use Rattle.code_memory.specs.Kept.{keyed}
use Rattle.code_memory.specs.LastImage.{based_below, lowest, IsSame}
use Rattle.code_memory.specs.Places.{before, deposits, AreBetween}
use Rattle.code_memory.specs.declared.image.Segment.{Segment}
use Rattle.code_memory.specs.declared.placement.Placement.{Placement}
use Rattle.code_memory.proofs.Compared.{below_is, not_below, below_or, less_is, greater_is, equal_is}
use Rattle.code_memory.proofs.Entries.{values-keyed}
use Rattle.code_memory.proofs.LaidOut.{with}

abbrev pub is_below : ℕ → Segment → Bool
is_below at s = nat_lt s.base at

-- the deposits of two parts
before-append : (base : ℕ) (bytes : Option (List ℕ)) (xs ys : List Segment) → before base bytes (xs ++ ys) ≡ before base bytes xs ++ ys
before-append base None xs ys = refl
before-append base (Some bytes) xs ys = refl

pub deposits-append : (xs ys : List Placement) → deposits (xs ++ ys) ≡ deposits xs ++ deposits ys
deposits-append [] ys = refl
deposits-append (x ∷ xs) ys = ap (before x.base x.bytes) (deposits-append xs ys) ∙ before-append x.base x.bytes (deposits xs) (deposits ys)

-- a placement without bytes changes nothing
pub deposits-silent : (low : List Placement) (p : Placement) (high : List Placement) → p.bytes ≡ None → deposits (low ++ p ∷ high) ≡ deposits (low ++ high)
deposits-silent low p high none =
    deposits-append low (p ∷ high) ∙ ap (λ o. deposits low ++ before p.base o (deposits high)) none ∙ sym (deposits-append low high)

-- a range that isn't below an address
above_one : (at base : ℕ) (bytes : Option (List ℕ)) (ss : List Segment) → at ≤ base → based_below at (before base bytes ss) ≡ based_below at ss
above_one at base None ss over = refl
above_one at base (Some bytes) ss over =
    ap (λ b. cond b (record { base = base; bytes = bytes } ∷ based_below at ss) (based_below at ss)) (not_below base at over)

-- what is below the base of a placement doesn't depend on its bytes, nor on whether it is there
around : (low : List Placement) (p : Placement) (high : List Placement) → based_below p.base (deposits (low ++ p ∷ high)) ≡ based_below p.base (deposits low) ++ based_below p.base (deposits high)
around low p high =
    ap (based_below p.base) (deposits-append low (p ∷ high))
    ∙ filter-append (is_below p.base) (deposits low) (before p.base p.bytes (deposits high))
    ∙ ap (λ ss. based_below p.base (deposits low) ++ ss) (above_one p.base p.base p.bytes (deposits high) (omega arith))

pub below-set : (low : List Placement) (p : Placement) (bytes : Option (List ℕ)) (high : List Placement) → based_below p.base (deposits (low ++ p ∷ high)) ≡ based_below p.base (deposits (low ++ with p bytes ∷ high))
below-set low p bytes high = around low p high ∙ sym (around low (with p bytes) high)

pub below-remove : (low : List Placement) (p : Placement) (high : List Placement) → based_below p.base (deposits (low ++ p ∷ high)) ≡ based_below p.base (deposits (low ++ high))
below-remove low p high =
    around low p high ∙ sym (ap (based_below p.base) (deposits-append low high) ∙ filter-append (is_below p.base) (deposits low) (deposits high))

-- what is the same below an address is so below a lower one
below-below : (at high : ℕ) (ss : List Segment) → at ≤ high → based_below at (based_below high ss) ≡ based_below at ss
below-below at high [] le = refl
below-below at high (s ∷ ss) le =
    ⊎_elim (λ (less : s.base < high).
    ap (λ b. based_below at (cond b (s ∷ based_below high ss) (based_below high ss))) (below_is s.base high less)
    ∙ ap (λ r. cond (nat_lt s.base at) (s ∷ r) r) (below-below at high ss le))
    (λ (over : high ≤ s.base).
    ap (λ b. based_below at (cond b (s ∷ based_below high ss) (based_below high ss))) (not_below s.base high over)
    ∙ below-below at high ss le
    ∙ sym (ap (λ b. cond b (s ∷ based_below at ss) (based_below at ss)) (not_below s.base at (omega arith))))
    (below_or s.base high)

same_lower : (at high : ℕ) (xs ys : List Segment) → at ≤ high → based_below high xs ≡ based_below high ys → based_below at xs ≡ based_below at ys
same_lower at high xs ys le same = sym (below-below at high xs le) ∙ ap (based_below at) same ∙ below-below at high ys le

-- what was the same as far as something changed is so as far as the lowest base at which it did
same_touched : (changed : Option ℕ) (base : ℕ) (shown was now : List Segment) → IsSame changed shown was → based_below base was ≡ based_below base now → IsSame (Some (lowest changed base)) shown now
same_touched None base shown was now same kept = ap (based_below base) same ∙ kept
same_touched (Some earlier) base shown was now same kept =
    ⊎_elim (λ (less : earlier < base).
    subst (λ b. IsSame (Some (cond b earlier base)) shown now) (sym (below_is earlier base less)) (same ∙ same_lower earlier base was now (omega arith) kept))
    (λ (over : base ≤ earlier).
    subst (λ b. IsSame (Some (cond b earlier base)) shown now) (sym (not_below earlier base over)) (same_lower base earlier shown was over same ∙ kept))
    (below_or earlier base)

pub touched : (image : Option (List Segment)) (changed : Option ℕ) (base : ℕ) (was now : List Segment) → IfSome image (λ shown. IsSame changed shown was) → based_below base was ≡ based_below base now →
    IfSome image (λ shown. IsSame (Some (lowest changed base)) shown now)
touched None changed base was now same kept = tt
touched (Some shown) changed base was now same kept = same_touched changed base shown was now same kept

pub none_is : (o : Option (List ℕ)) → is_some o ≡ false → o ≡ None
none_is None h = refl
none_is (Some bytes) h = absurd cc

-- ranges that rise, up to where their bases aren't below an address
none_based : (at : ℕ) (ss : List Segment) → ((k : ℕ) (d : Segment) → k < length ss → is_below at (get_or ss k d) ≡ false) → based_below at ss ≡ []
none_based at [] all = refl
none_based at (s ∷ ss) all =
    ap (λ b. cond b (s ∷ based_below at ss) (based_below at ss)) (all 0 s (omega arith)) ∙ none_based at ss (λ k d less. all (suc k) d (omega (arith, less)))

pub taken_below : (at : ℕ) (ss : List Segment) (i : ℕ) → i ≤ length ss → IsPartitionPoint (λ s. is_below at s ≡ true) (λ s. is_below at s ≡ false) ss i → take i ss ≡ based_below at ss
taken_below at [] zero within point = refl
taken_below at [] (suc i) within point = absurd (omega (arith, within))
taken_below at (s ∷ ss) zero within point = sym (none_based at (s ∷ ss) (λ k d less. point.1 k d (omega arith) less))
taken_below at (s ∷ ss) (suc i) within point =
    let first : is_below at s ≡ true = point.0 0 s (omega arith) (omega arith) in
    let rest = taken_below at ss i (omega (arith, within)) (
      (λ k d low high. point.0 (suc k) d (omega arith) (omega (arith, high))),
      (λ k d low high. point.1 (suc k) d (omega (arith, low)) (omega (arith, high))),
    ) in
    ap (λ r. s ∷ r) rest ∙ sym (ap (λ b. cond b (s ∷ based_below at ss) (based_below at ss)) first)

base_above : (low : ℕ) (ss : List Segment) (high : ℕ) → AreApart (λ s. s.base) (λ s. length s.bytes) low ss high → (j : ℕ) (d : Segment) → j < length ss → low ≤ (get_or ss j d).base
base_above low [] high apart j d less = absurd (omega (arith, less))
base_above low (s ∷ ss) high apart zero d less = omega (arith, apart.0)
base_above low (s ∷ ss) high apart (suc j) d less = omega (arith, apart.0, base_above (s.base + length s.bytes) ss high apart.2 j d (omega (arith, less)))

pub rising_bases : (low : ℕ) (ss : List Segment) (high : ℕ) → AreApart (λ s. s.base) (λ s. length s.bytes) low ss high → IsNonDecreasingBy (λ s. s.base) ss
rising_bases low [] high apart = λ i j d le less. absurd (omega (arith, less))
rising_bases low (s ∷ ss) high apart = by (rising_bases (s.base + length s.bytes) ss high apart.2)
  where
    by : IsNonDecreasingBy (λ s. s.base) ss → IsNonDecreasingBy (λ s. s.base) (s ∷ ss)
    by rest zero zero d le less = omega arith
    by rest zero (suc j) d le less = omega (arith, base_above (s.base + length s.bytes) ss high apart.2 j d (omega (arith, less)))
    by rest (suc i) zero d le less = absurd (omega (arith, le))
    by rest (suc i) (suc j) d le less = rest i j d (omega (arith, le)) (omega (arith, less))

-- entries from a base on
abbrev pub is_from : ℕ → ℕ × Placement → Bool
is_from at e = range_contains nat_cmp (Included at) Unbounded e.0

from_is : (at base : ℕ) (p : Placement) → at ≤ base → is_from at (base, p) ≡ true
from_is at base p over =
    ⊎_elim (λ (less : at < base). ap (λ o. is_le o && true) (less_is at base less))
    (λ (no : base ≤ at). let same : base ≡ at = omega arith in ap (λ k. is_le (nat_cmp at k) && true) same ∙ ap (λ o. is_le o && true) (equal_is at))
    (below_or at base)

from_not : (at base : ℕ) (p : Placement) → base < at → is_from at (base, p) ≡ false
from_not at base p less = ap (λ o. is_le o && true) (greater_is at base less)

all_from : (at low : ℕ) (ps : List Placement) (high : ℕ) → AreBetween low ps high → at ≤ low → filter (is_from at) (keyed ps) ≡ keyed ps
all_from at low [] high apart over = refl
all_from at low (p ∷ ps) high apart over =
    ap (λ b. cond b ((p.base, p) ∷ filter (is_from at) (keyed ps)) (filter (is_from at) (keyed ps))) (from_is at p.base p (omega (arith, apart.0)))
    ∙ ap (λ es. (p.base, p) ∷ es) (all_from at (end_of p) ps high apart.2 (omega (arith, apart.0)))

none_below : (at low : ℕ) (ps : List Placement) (high : ℕ) → AreBetween low ps high → at ≤ low → based_below at (deposits ps) ≡ []
none_below at low [] high apart over = refl
none_below at low (p ∷ ps) high apart over =
    above_one at p.base p.bytes (deposits ps) (omega (arith, apart.0)) ∙ none_below at (end_of p) ps high apart.2 (omega (arith, apart.0))

below_one : (at base : ℕ) (bytes : Option (List ℕ)) (ss rest : List Segment) → base < at → based_below at (before base bytes ss) ++ rest ≡ before base bytes (based_below at ss ++ rest)
below_one at base None ss rest less = refl
below_one at base (Some bytes) ss rest less =
    ap (λ b. cond b (record { base = base; bytes = bytes } ∷ based_below at ss) (based_below at ss) ++ rest) (below_is base at less)

-- the deposits below a base, and those of the entries from it on, are all
pub joined : (at low : ℕ) (ps : List Placement) (high : ℕ) → AreBetween low ps high → based_below at (deposits ps) ++ deposits (values_of (filter (is_from at) (keyed ps))) ≡ deposits ps
joined at low [] high apart = refl
joined at low (p ∷ ps) high apart =
    ⊎_elim (λ (less : p.base < at).
    ap (λ b. based_below at (deposits (p ∷ ps)) ++ deposits (values_of (cond b ((p.base, p) ∷ filter (is_from at) (keyed ps)) (filter (is_from at) (keyed ps))))) (from_not at p.base p less)
    ∙ below_one at p.base p.bytes (deposits ps) (deposits (values_of (filter (is_from at) (keyed ps)))) less
    ∙ ap (before p.base p.bytes) (joined at (end_of p) ps high apart.2))
    (λ (over : at ≤ p.base).
    let here : AreBetween p.base (p ∷ ps) high = (omega arith, apart.1, apart.2) in
    ap (λ ss. ss ++ deposits (values_of (filter (is_from at) (keyed (p ∷ ps))))) (none_below at p.base (p ∷ ps) high here over)
    ∙ ap (λ es. deposits (values_of es)) (all_from at p.base (p ∷ ps) high here over)
    ∙ ap deposits (values-keyed (p ∷ ps)))
    (below_or p.base at)
