-- The first gap that a shape fits into has the lowest free base, and where there is none no base is free.
use Rattle.std.proofs.Common.{◌≡◌, ⊎_elim, inl, inr, ℕ, Option, Some, None, ◌+◌, ◌%◌, ◌<◌, ◌≤◌, List, [], ◌∷◌, ◌++◌, length, suc, refl, ap, sym, cond, subst, arith, length-append}
use Rattle.std.specs.Int.{next_multiple_of}
use Rattle.orc_ids.specs.declared.place.Shape.{Shape}
use Rattle.orc_ids.specs.declared.limits.TheConstants.{CODE_START, CODE_END}
use Rattle.code_memory.specs.declared.gaps.Gap.{Gap}
use Rattle.code_memory.specs.declared.placement.Placement.{Placement}
use Rattle.code_memory.specs.Gaps.{between, end_of, gaps_below, last_end, base_in, fit_or, first_fit, with_rest}
use Rattle.code_memory.specs.Places.{AreBetween, IsBesideAll, IsFree, IsLowestFree, IsFull}
use Rattle.code_memory.proofs.Compared.{below_is, not_below, below_or}
use Rattle.code_memory.proofs.Between.{between_some, between_none, apart_from}
use Rattle.code_memory.proofs.Lowest.{IsLowest, lowest_is}

-- the base is free for the shape among placements from low on
pub record IsFreeFrom (low : ℕ) (ps : List Placement) (shape : Shape) (base : ℕ) : Type 0 where
  pub aligned : base % shape.align ≡ 0
  pub above : low ≤ base
  pub to_end : base + shape.need ≤ CODE_END
  pub beside : IsBesideAll base shape.need ps

-- what was found: two parts of the placements, the base between them, and no lower base is free
pub record IsFit (low : ℕ) (ps : List Placement) (shape : Shape) (at number base : ℕ) : Type 0 where
  pub front : List Placement
  pub back : List Placement
  pub split : ps ≡ front ++ back
  pub place : number ≡ at + length (gaps_below low front)
  pub aligned : base % shape.align ≡ 0
  pub above : last_end low front ≤ base
  pub below : AreBetween (base + shape.need) back CODE_END
  pub lowest : (other : ℕ) → IsFreeFrom low ps shape other → base ≤ other

abbrev pub IsAnswer : ℕ → List Placement → Shape → ℕ → Option (ℕ × ℕ) → Type 0
IsAnswer low ps shape at None = (other : ℕ) → IsFreeFrom low ps shape other → ⊥
IsAnswer low ps shape at (Some fit) = IsFit low ps shape at fit.0 fit.1

-- what a gap's base says of the gap
pub record IsBaseIn (shape : Shape) (gap : Gap) (base : ℕ) : Type 0 where
  pub least : IsLowest gap.start shape.align base
  pub fits : base + shape.need ≤ gap.end

abbrev pub IsGapAnswer : Shape → Gap → Option ℕ → Type 0
IsGapAnswer shape gap None = (other : ℕ) → other % shape.align ≡ 0 → gap.start ≤ other → other + shape.need ≤ gap.end → ⊥
IsGapAnswer shape gap (Some base) = IsBaseIn shape gap base

gap_answer : (shape : Shape) (gap : Gap) → 0 < shape.align → IsGapAnswer shape gap (base_in shape gap)
gap_answer shape gap some =
    let base = next_multiple_of gap.start shape.align in
    let least = lowest_is gap.start shape.align some in
    ⊎_elim (λ (over : gap.end < base + shape.need).
    subst (λ b. IsGapAnswer shape gap (cond b None (Some base))) (sym (below_is gap.end (base + shape.need) over))
    (λ other even above within. omega (arith, over, within, least.lowest other even above)))
    (λ (within : base + shape.need ≤ gap.end).
    subst (λ b. IsGapAnswer shape gap (cond b None (Some base))) (sym (not_below gap.end (base + shape.need) within))
    (record { least = least; fits = within }))
    (below_or gap.end (base + shape.need))

-- past a gap that the shape doesn't fit into
past : (low : ℕ) (p : Placement) (ps : List Placement) (shape : Shape) (at next : ℕ) (r : Option (ℕ × ℕ)) → AreBetween low (p ∷ ps) CODE_END →
    ((other : ℕ) → other % shape.align ≡ 0 → low ≤ other → other + shape.need ≤ p.base → ⊥) → next ≡ at + length (between low p.base) → IsAnswer (end_of p) ps shape next r → IsAnswer low (p ∷ ps) shape at r
past low p ps shape at next None apart none count later =
    λ other free. ⊎_elim (λ (under : other + shape.need ≤ p.base). none other free.aligned free.above under)
    (λ (over : end_of p ≤ other). later other (record { aligned = free.aligned; above = over; to_end = free.to_end; beside = free.beside.1 }))
    free.beside.0
past low p ps shape at next (Some fit) apart none count later = record {
  front = p ∷ later.front;
  back = later.back;
  split = ap (λ xs. p ∷ xs) later.split;
  place = let e : fit.0 ≡ at + length (between low p.base ++ gaps_below (end_of p) later.front) = omega (arith, later.place, count, length-append (between low p.base) (gaps_below (end_of p) later.front)) in e;
  aligned = later.aligned;
  above = later.above;
  below = later.below;
  lowest = λ other free. ⊎_elim (λ (under : other + shape.need ≤ p.base). absurd (none other free.aligned free.above under))
      (λ (over : end_of p ≤ other). later.lowest other (record { aligned = free.aligned; above = over; to_end = free.to_end; beside = free.beside.1 }))
      free.beside.0;
}

-- a gap, and what comes behind it
at_gap : (low : ℕ) (p : Placement) (ps : List Placement) (shape : Shape) (at : ℕ) (here : Option ℕ) (later : Option (ℕ × ℕ)) → AreBetween low (p ∷ ps) CODE_END → low < p.base →
    IsGapAnswer shape (record { start = low; end = p.base }) here → IsAnswer (end_of p) ps shape (suc at) later → IsAnswer low (p ∷ ps) shape at (fit_or at here later)
at_gap low p ps shape at None later apart less here found =
    past low p ps shape at (suc at) later apart here (let e : suc at ≡ at + length (between low p.base) = omega (arith, ap length (between_some low p.base less)) in e) found
at_gap low p ps shape at (Some base) later apart less here found = record {
  front = [];
  back = p ∷ ps;
  split = refl;
  place = let e : at ≡ at + 0 = omega arith in e;
  aligned = here.least.aligned;
  above = here.least.above;
  below = (here.fits, apart.1, apart.2);
  lowest = λ other free. here.least.lowest other free.aligned free.above;
}

-- what is above all placements
at_end : (low : ℕ) (shape : Shape) (at : ℕ) (here : Option ℕ) → IsGapAnswer shape (record { start = low; end = CODE_END }) here → IsAnswer low [] shape at (fit_or at here None)
at_end low shape at None here = λ other free. here other free.aligned free.above free.to_end
at_end low shape at (Some base) here = record {
  front = [];
  back = [];
  split = refl;
  place = let e : at ≡ at + 0 = omega arith in e;
  aligned = here.least.aligned;
  above = here.least.above;
  below = here.fits;
  lowest = λ other free. here.least.lowest other free.aligned free.above;
}

pub answer : (low : ℕ) (ps : List Placement) (shape : Shape) (at : ℕ) → AreBetween low ps CODE_END → 0 < shape.need → 0 < shape.align → IsAnswer low ps shape at (first_fit shape at (with_rest (gaps_below low ps) (last_end low ps)))
answer low [] shape at apart some align = at_end low shape at (base_in shape (record { start = low; end = CODE_END })) (gap_answer shape (record { start = low; end = CODE_END }) align)
answer low (p ∷ ps) shape at apart some align =
    ⊎_elim (λ (less : low < p.base).
    subst (λ gs. IsAnswer low (p ∷ ps) shape at (first_fit shape at (with_rest (gs ++ gaps_below (end_of p) ps) (last_end (end_of p) ps)))) (sym (between_some low p.base less))
    (at_gap low p ps shape at (base_in shape (record { start = low; end = p.base })) (first_fit shape (suc at) (with_rest (gaps_below (end_of p) ps) (last_end (end_of p) ps))) apart less
    (gap_answer shape (record { start = low; end = p.base }) align) (answer (end_of p) ps shape (suc at) apart.2 some align)))
    (λ (over : p.base ≤ low).
    subst (λ gs. IsAnswer low (p ∷ ps) shape at (first_fit shape at (with_rest (gs ++ gaps_below (end_of p) ps) (last_end (end_of p) ps)))) (sym (between_none low p.base over))
    (past low p ps shape at at (first_fit shape at (with_rest (gaps_below (end_of p) ps) (last_end (end_of p) ps))) apart
    (λ other even above under. omega (arith, above, under, over, some)) (let e : at ≡ at + length (between low p.base) = omega (arith, ap length (between_none low p.base over)) in e)
    (answer (end_of p) ps shape at apart.2 some align)))
    (below_or low p.base)

free_from : (ps : List Placement) (shape : Shape) (base : ℕ) → IsFree ps shape base → IsFreeFrom CODE_START ps shape base
free_from ps shape base free = record { aligned = free.aligned; above = free.from_start; to_end = free.to_end; beside = free.beside }

front_from : (low : ℕ) (xs ys : List Placement) → AreBetween low (xs ++ ys) CODE_END → low ≤ last_end low xs
front_from low [] ys apart = omega arith
front_from low (x ∷ xs) ys apart = omega (arith, apart.0, front_from (end_of x) xs ys apart.2)

-- a range between two parts of the placements is beside all of them
beside_back : (base need : ℕ) (ys : List Placement) → AreBetween (base + need) ys CODE_END → IsBesideAll base need ys
beside_back base need [] apart = tt
beside_back base need (y ∷ ys) apart = (inl apart.0, beside_back base need ys (apart_from (end_of y) (base + need) ys CODE_END (omega (arith, apart.0)) apart.2))

beside_front : (low base need : ℕ) (xs ys : List Placement) → AreBetween low (xs ++ ys) CODE_END → last_end low xs ≤ base → IsBesideAll base need ys → IsBesideAll base need (xs ++ ys)
beside_front low base need [] ys apart above back = back
beside_front low base need (x ∷ xs) ys apart above back =
    (inr (let over : end_of x ≤ base = omega (arith, above, front_from (end_of x) xs ys apart.2) in over), beside_front (end_of x) base need xs ys apart.2 above back)

back_to : (low : ℕ) (ys : List Placement) → AreBetween low ys CODE_END → low ≤ CODE_END
back_to low [] apart = apart
back_to low (y ∷ ys) apart = omega (arith, apart.0, back_to (end_of y) ys apart.2)

pub lowest_free : (ps : List Placement) (shape : Shape) (number base : ℕ) → AreBetween CODE_START ps CODE_END → IsFit CODE_START ps shape 0 number base → IsLowestFree ps shape base
lowest_free ps shape number base apart fit =
    let whole = subst (λ xs. AreBetween CODE_START xs CODE_END) fit.split apart in
    record {
      free = record {
        aligned = fit.aligned;
        from_start = omega (arith, fit.above, front_from CODE_START fit.front fit.back whole);
        to_end = back_to (base + shape.need) fit.back fit.below;
        beside = subst (IsBesideAll base shape.need) (sym fit.split) (beside_front CODE_START base shape.need fit.front fit.back whole fit.above (beside_back base shape.need fit.back fit.below));
      };
      lowest = λ other free. fit.lowest other (free_from ps shape other free);
    }

pub full : (ps : List Placement) (shape : Shape) → IsAnswer CODE_START ps shape 0 None → IsFull ps shape
full ps shape none = λ base free. none base (free_from ps shape base free)
