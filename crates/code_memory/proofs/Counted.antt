-- Where the gaps below an address end, found by halves.
use Rattle.std.proofs.Common.{◌≡◌, ℕ, Bool, true, false, ◌<◌, ◌≤◌, List, [], ◌∷◌, ◌++◌, length, get_or, zero, suc, ap, sym, ◌∙◌, cond, subst, ⊎_elim, arith}
use Rattle.std.specs.Prelude.{nat_lt}
use Rattle.std.specs.List.Sorted.{IsPartitionPoint, IsNonDecreasingBy}
use Rattle.code_memory.specs.declared.gaps.Gap.{Gap}
use Rattle.code_memory.specs.declared.placement.Placement.{Placement}
use Rattle.code_memory.specs.Gaps.{end_of, gaps_below, ending_below}
use Rattle.code_memory.specs.Places.{AreBetween}
use Rattle.code_memory.proofs.Compared.{below_or}
use Rattle.code_memory.proofs.Between.{between_some, between_none}

abbrev pub ends_below : ℕ → Gap → Bool
ends_below at g = nat_lt g.end at

pub counted_by : (at : ℕ) (gs : List Gap) (i : ℕ) → i ≤ length gs → IsPartitionPoint (λ g. ends_below at g ≡ true) (λ g. ends_below at g ≡ false) gs i → i ≡ ending_below at gs
counted_by at [] i within point = omega arith
counted_by at (g ∷ gs) zero within point = sym (ap (λ b. cond b (suc (ending_below at gs)) 0) (point.1 0 g (omega arith) (omega arith)))
counted_by at (g ∷ gs) (suc i) within point =
    let first : ends_below at g ≡ true = point.0 0 g (omega arith) (omega arith) in
    let rest = counted_by at gs i (omega (arith, within)) (
      (λ k d low high. point.0 (suc k) d (omega arith) (omega (arith, high))),
      (λ k d low high. point.1 (suc k) d (omega (arith, low)) (omega (arith, high))),
    ) in
    ap suc rest ∙ sym (ap (λ b. cond b (suc (ending_below at gs)) 0) first)

-- the gaps rise
all_above : (low : ℕ) (ps : List Placement) (high : ℕ) → AreBetween low ps high → (j : ℕ) (d : Gap) → j < length (gaps_below low ps) → low ≤ (get_or (gaps_below low ps) j d).end
all_above low [] high apart j d less = absurd (omega (arith, less))
all_above low (p ∷ ps) high apart j d less =
    ⊎_elim (λ (some : low < p.base).
    subst (λ gs. j < length (gs ++ gaps_below (end_of p) ps) → low ≤ (get_or (gs ++ gaps_below (end_of p) ps) j d).end) (sym (between_some low p.base some)) (at_some (λ k within. all_above (end_of p) ps high apart.2 k d within) j some) less)
    (λ (none : p.base ≤ low).
    subst (λ gs. j < length (gs ++ gaps_below (end_of p) ps) → low ≤ (get_or (gs ++ gaps_below (end_of p) ps) j d).end) (sym (between_none low p.base none)) (λ within. omega (arith, apart.0, all_above (end_of p) ps high apart.2 j d within)) less)
    (below_or low p.base)
  where
    at_some : ((k : ℕ) → k < length (gaps_below (end_of p) ps) → end_of p ≤ (get_or (gaps_below (end_of p) ps) k d).end) → (j : ℕ) → low < p.base → j < length (record { start = low; end = p.base } ∷ gaps_below (end_of p) ps) → low ≤ (get_or (record { start = low; end = p.base } ∷ gaps_below (end_of p) ps) j d).end
    at_some rest zero some within = omega (arith, some)
    at_some rest (suc j) some within = omega (arith, some, rest j (omega (arith, within)))

rising_after : (low : ℕ) (p : Placement) (ps : List Placement) (high : ℕ) → AreBetween low (p ∷ ps) high → IsNonDecreasingBy (λ g. g.end) (gaps_below (end_of p) ps) → IsNonDecreasingBy (λ g. g.end) (record { start = low; end = p.base } ∷ gaps_below (end_of p) ps)
rising_after low p ps high apart rest zero zero d le less = omega arith
rising_after low p ps high apart rest zero (suc j) d le less = omega (arith, all_above (end_of p) ps high apart.2 j d (omega (arith, less)))
rising_after low p ps high apart rest (suc i) zero d le less = absurd (omega (arith, le))
rising_after low p ps high apart rest (suc i) (suc j) d le less = rest i j d (omega (arith, le)) (omega (arith, less))

pub rising : (low : ℕ) (ps : List Placement) (high : ℕ) → AreBetween low ps high → IsNonDecreasingBy (λ g. g.end) (gaps_below low ps)
rising low [] high apart = λ i j d le less. absurd (omega (arith, less))
rising low (p ∷ ps) high apart =
    ⊎_elim (λ (some : low < p.base). subst (λ gs. IsNonDecreasingBy (λ g. g.end) (gs ++ gaps_below (end_of p) ps)) (sym (between_some low p.base some)) (rising_after low p ps high apart (rising (end_of p) ps high apart.2)))
    (λ (none : p.base ≤ low). subst (λ gs. IsNonDecreasingBy (λ g. g.end) (gs ++ gaps_below (end_of p) ps)) (sym (between_none low p.base none)) (rising (end_of p) ps high apart.2))
    (below_or low p.base)
