-- The gaps below placements, as a range is taken out of one and given back.
use Rattle.std.proofs.Common.{◌≡◌, ◌≢◌, ⊎_elim, ℕ, false, ◌<◌, ◌≤◌, List, [], ◌∷◌, ◌++◌, length, take, drop, get_or, suc, refl, ap, sym, ◌∙◌, cond, subst, arith, length-append}
use Rattle.std.specs.Prelude.{◌==◌}
use Rattle.std.proofs.lemmas.Bool.{eq-eqb}
use Rattle.std.proofs.lemmas.List.{take_at, drop_at, get_or_at}
use Rattle.orc_ids.specs.declared.limits.TheConstants.{CODE_START, CODE_END}
use Rattle.code_memory.specs.declared.gaps.Gap.{Gap}
use Rattle.code_memory.specs.declared.placement.Placement.{Placement}
use Rattle.code_memory.specs.Gaps.{between, end_of, gaps_below, last_end, ending_below, start_to, rest_to, end_from, rest_from}
use Rattle.code_memory.specs.Kept.{AreGaps, IsCut}
use Rattle.code_memory.specs.Places.{AreBetween}
use Rattle.code_memory.proofs.Compared.{below_is, not_below, below_or, apart_is}
use Rattle.code_memory.proofs.Between.{gap_of, between_some, between_none, gaps-append, last-append, apart_around, apart_front, last_from}

-- the first gap above an address, if there is one, neither ends nor starts below it
none_ends : (at low : ℕ) (ps : List Placement) (high : ℕ) → AreBetween low ps high → at ≤ low → ending_below at (gaps_below low ps) ≡ 0
none_ends at low [] high apart below = refl
none_ends at low (p ∷ ps) high apart below =
    ⊎_elim (λ (less : low < p.base).
    ap (λ gs. ending_below at (gs ++ gaps_below (end_of p) ps)) (between_some low p.base less)
    ∙ ap (λ b. cond b (suc (ending_below at (gaps_below (end_of p) ps))) 0) (not_below p.base at (omega (arith, less))))
    (λ (over : p.base ≤ low).
    ap (λ gs. ending_below at (gs ++ gaps_below (end_of p) ps)) (between_none low p.base over) ∙ none_ends at (end_of p) ps high apart.2 (omega (arith, apart.0)))
    (below_or low p.base)

other_end : (at low : ℕ) (ps : List Placement) (high : ℕ) → AreBetween low ps high → at < low → (start_to at (gaps_below low ps) ≡ at) × (rest_to at (gaps_below low ps) ≡ gaps_below low ps)
other_end at low [] high apart below = (refl, refl)
other_end at low (p ∷ ps) high apart below =
    ⊎_elim (λ (less : low < p.base).
    let is = between_some low p.base less in
    let differ : (p.base == at) ≡ false = apart_is p.base at (λ e. let no : p.base ≡ at = e in omega (arith, less, no)) in
    subst (λ gs. (start_to at (gs ++ gaps_below (end_of p) ps) ≡ at) × (rest_to at (gs ++ gaps_below (end_of p) ps) ≡ gs ++ gaps_below (end_of p) ps)) (sym is)
    (ap (λ b. cond b low at) differ, ap (λ b. cond b (gaps_below (end_of p) ps) (gap_of low p.base ∷ gaps_below (end_of p) ps)) differ))
    (λ (over : p.base ≤ low).
    subst (λ gs. (start_to at (gs ++ gaps_below (end_of p) ps) ≡ at) × (rest_to at (gs ++ gaps_below (end_of p) ps) ≡ gs ++ gaps_below (end_of p) ps)) (sym (between_none low p.base over))
    (other_end at (end_of p) ps high apart.2 (omega (arith, apart.0))))
    (below_or low p.base)

other_start : (at low : ℕ) (ps : List Placement) (high : ℕ) → AreBetween low ps high → at < low → (end_from at (gaps_below low ps) ≡ at) × (rest_from at (gaps_below low ps) ≡ gaps_below low ps)
other_start at low [] high apart below = (refl, refl)
other_start at low (p ∷ ps) high apart below =
    ⊎_elim (λ (less : low < p.base).
    let is = between_some low p.base less in
    let differ : (low == at) ≡ false = apart_is low at (λ e. let no : low ≡ at = e in omega (arith, below, no)) in
    subst (λ gs. (end_from at (gs ++ gaps_below (end_of p) ps) ≡ at) × (rest_from at (gs ++ gaps_below (end_of p) ps) ≡ gs ++ gaps_below (end_of p) ps)) (sym is)
    (ap (λ b. cond b p.base at) differ, ap (λ b. cond b (gaps_below (end_of p) ps) (gap_of low p.base ∷ gaps_below (end_of p) ps)) differ))
    (λ (over : p.base ≤ low).
    subst (λ gs. (end_from at (gs ++ gaps_below (end_of p) ps) ≡ at) × (rest_from at (gs ++ gaps_below (end_of p) ps) ≡ gs ++ gaps_below (end_of p) ps)) (sym (between_none low p.base over))
    (other_start at (end_of p) ps high apart.2 (omega (arith, apart.0))))
    (below_or low p.base)

-- the gaps below a placement are those that end below it
pub counted : (low : ℕ) (xs : List Placement) (p : Placement) (ys : List Placement) (high : ℕ) → AreBetween low (xs ++ p ∷ ys) high → ending_below p.base (gaps_below low (xs ++ p ∷ ys)) ≡ length (gaps_below low xs)
counted low [] p ys high apart =
    ⊎_elim (λ (less : low < p.base).
    ap (λ gs. ending_below p.base (gs ++ gaps_below (end_of p) ys)) (between_some low p.base less)
    ∙ ap (λ b. cond b (suc (ending_below p.base (gaps_below (end_of p) ys))) 0) (not_below p.base p.base (omega arith)))
    (λ (over : p.base ≤ low).
    ap (λ gs. ending_below p.base (gs ++ gaps_below (end_of p) ys)) (between_none low p.base over) ∙ none_ends p.base (end_of p) ys high apart.2 (omega arith))
    (below_or low p.base)
counted low (x ∷ xs) p ys high apart =
    let rest = counted (end_of x) xs p ys high apart.2 in
    let above = last_from (end_of x) xs high (apart_front (end_of x) xs (p ∷ ys) high apart.2) in
    let around = apart_around (end_of x) xs p ys high apart.2 in
    ⊎_elim (λ (less : low < x.base).
    ap (λ gs. ending_below p.base (gs ++ gaps_below (end_of x) (xs ++ p ∷ ys))) (between_some low x.base less)
    ∙ ap (λ b. cond b (suc (ending_below p.base (gaps_below (end_of x) (xs ++ p ∷ ys)))) 0) (below_is x.base p.base (omega (arith, above, around.0, apart.1)))
    ∙ ap suc rest
    ∙ sym (ap (λ gs. length (gs ++ gaps_below (end_of x) xs)) (between_some low x.base less)))
    (λ (over : x.base ≤ low).
    ap (λ gs. ending_below p.base (gs ++ gaps_below (end_of x) (xs ++ p ∷ ys))) (between_none low x.base over) ∙ rest
    ∙ sym (ap (λ gs. length (gs ++ gaps_below (end_of x) xs)) (between_none low x.base over)))
    (below_or low x.base)

-- the gap that ends where a range starts, if there is one, is the first
joined_below : (low base e : ℕ) (ys : List Placement) (high : ℕ) → AreBetween e ys high → low ≤ base → base < e → (start_to base (between low base ++ gaps_below e ys) ≡ low) × (rest_to base (between low base ++ gaps_below e ys) ≡ gaps_below e ys)
joined_below low base e ys high apart up some =
    ⊎_elim (λ (less : low < base).
    subst (λ gs. (start_to base (gs ++ gaps_below e ys) ≡ low) × (rest_to base (gs ++ gaps_below e ys) ≡ gaps_below e ys)) (sym (between_some low base less))
    (ap (λ b. cond b low base) (eq-eqb base base refl), ap (λ b. cond b (gaps_below e ys) (gap_of low base ∷ gaps_below e ys)) (eq-eqb base base refl)))
    (λ (over : base ≤ low).
    let same : base ≡ low = omega arith in
    let other = other_end base e ys high apart some in
    subst (λ gs. (start_to base (gs ++ gaps_below e ys) ≡ low) × (rest_to base (gs ++ gaps_below e ys) ≡ gaps_below e ys)) (sym (between_none low base over)) (other.0 ∙ same, other.1))
    (below_or low base)

-- so is the one that starts where a range ends
joined_above : (end : ℕ) (q : Placement) (ys : List Placement) (high : ℕ) → AreBetween end (q ∷ ys) high → (end_from end (gaps_below end (q ∷ ys)) ≡ q.base) × (rest_from end (gaps_below end (q ∷ ys)) ≡ gaps_below (end_of q) ys)
joined_above end q ys high apart =
    ⊎_elim (λ (less : end < q.base).
    subst (λ gs. (end_from end (gs ++ gaps_below (end_of q) ys) ≡ q.base) × (rest_from end (gs ++ gaps_below (end_of q) ys) ≡ gaps_below (end_of q) ys)) (sym (between_some end q.base less))
    (ap (λ b. cond b q.base end) (eq-eqb end end refl), ap (λ b. cond b (gaps_below (end_of q) ys) (gap_of end q.base ∷ gaps_below (end_of q) ys)) (eq-eqb end end refl)))
    (λ (over : q.base ≤ end).
    let same : end ≡ q.base = omega (arith, apart.0) in
    let other = other_start end (end_of q) ys high apart.2 (omega (arith, apart.0, apart.1)) in
    subst (λ gs. (end_from end (gs ++ gaps_below (end_of q) ys) ≡ q.base) × (rest_from end (gs ++ gaps_below (end_of q) ys) ≡ gaps_below (end_of q) ys)) (sym (between_none end q.base over)) (other.0 ∙ same, other.1))
    (below_or end q.base)

-- a range taken from above the last placement
pub taken_above : (low : List Placement) (p : Placement) (high : List Placement) (gs now : List Gap) (last base end at : ℕ) → IsCut low p high base end → AreGaps gs last (low ++ high) → at ≡ length (gaps_below CODE_START low) → at ≡ length gs →
    now ≡ take at gs ++ (between last base ++ drop at gs) → AreGaps now end (low ++ p ∷ high)
taken_above low p [] gs now last base end at cut kept place full written =
    let A = gaps_below CODE_START low in
    let s = last_end CODE_START low in
    let is : gs ≡ A ++ [] = kept.below ∙ gaps-append CODE_START low [] in
    let first : take at gs ≡ A = ap (take at) is ∙ take_at A [] at (sym place) in
    let rest : drop at gs ≡ [] = ap (drop at) is ∙ drop_at A [] at (sym place) in
    let top : last ≡ s = kept.ends ∙ last-append CODE_START low [] in
    record {
      below = written ∙ ap (λ f. f ++ (between last base ++ drop at gs)) first ∙ ap (λ r. A ++ (between last base ++ r)) rest ∙ ap (λ l. A ++ (between l base ++ [])) top
          ∙ ap (λ b. A ++ (between s b ++ [])) cut.starts ∙ sym (gaps-append CODE_START low (p ∷ []));
      ends = cut.ends ∙ sym (last-append CODE_START low (p ∷ []));
    }
taken_above low p (q ∷ qs) gs now last base end at cut kept place full written =
    let A = gaps_below CODE_START low in
    let s = last_end CODE_START low in
    let around = apart_around CODE_START low p (q ∷ qs) CODE_END cut.apart in
    let is : gs ≡ A ++ (between s q.base ++ gaps_below (end_of q) qs) = kept.below ∙ gaps-append CODE_START low (q ∷ qs) in
    let open_gap : gs ≡ A ++ gap_of s q.base ∷ gaps_below (end_of q) qs = is ∙ ap (λ g. A ++ (g ++ gaps_below (end_of q) qs)) (between_some s q.base (omega (arith, around.0, around.1, around.2.0))) in
    absurd (omega (arith, full, place, ap length open_gap, length-append A (gap_of s q.base ∷ gaps_below (end_of q) qs)))

-- a range taken from a gap between two placements
pub taken_between : (low : List Placement) (p : Placement) (high : List Placement) (gs mid now : List Gap) (gap : Gap) (last base end at : ℕ) → IsCut low p high base end → AreGaps gs last (low ++ high) → at ≡ length (gaps_below CODE_START low) → at ≢ length gs →
    gap ≡ get_or gs at gap → mid ≡ take at gs ++ (between end gap.end ++ drop (suc at) gs) → now ≡ take at mid ++ (between gap.start base ++ drop at mid) → AreGaps now last (low ++ p ∷ high)
taken_between low p [] gs mid now gap last base end at cut kept place less read first second =
    let A = gaps_below CODE_START low in
    let is : gs ≡ A ++ [] = kept.below ∙ gaps-append CODE_START low [] in
    absurd (less (let e : at ≡ length gs = omega (arith, place, ap length is, length-append A []) in e))
taken_between low p (q ∷ qs) gs mid now gap last base end at cut kept place less read first second =
    let A = gaps_below CODE_START low in
    let s = last_end CODE_START low in
    let R = gaps_below (end_of q) qs in
    let around = apart_around CODE_START low p (q ∷ qs) CODE_END cut.apart in
    let is : gs ≡ A ++ gap_of s q.base ∷ R = kept.below ∙ gaps-append CODE_START low (q ∷ qs) ∙ ap (λ g. A ++ (g ++ R)) (between_some s q.base (omega (arith, around.0, around.1, around.2.0))) in
    let gap_is : gap ≡ gap_of s q.base = read ∙ ap (λ g. get_or g at gap) is ∙ get_or_at A (gap_of s q.base) R gap at (sym place) in
    let mid_is : mid ≡ A ++ (between end q.base ++ R) = first ∙ ap (λ g. take at g ++ (between end gap.end ++ drop (suc at) g)) is ∙ ap (λ f. f ++ (between end gap.end ++ drop (suc at) (A ++ gap_of s q.base ∷ R))) (take_at A (gap_of s q.base ∷ R) at (sym place)) ∙ ap (λ r. A ++ (between end gap.end ++ r)) (drop_next A (gap_of s q.base) R at (sym place)) ∙ ap (λ (g : Gap). A ++ (between end g.end ++ R)) gap_is in
    let now_is : now ≡ A ++ (between s base ++ (between end q.base ++ R)) = second ∙ ap (λ r. take at r ++ (between gap.start base ++ drop at r)) mid_is ∙ ap (λ f. f ++ (between gap.start base ++ drop at (A ++ (between end q.base ++ R)))) (take_at A (between end q.base ++ R) at (sym place)) ∙ ap (λ r. A ++ (between gap.start base ++ r)) (drop_at A (between end q.base ++ R) at (sym place)) ∙ ap (λ (g : Gap). A ++ (between g.start base ++ (between end q.base ++ R))) gap_is in
    record {
      below = now_is ∙ ap (λ b. A ++ (between s b ++ (between end q.base ++ R))) cut.starts ∙ ap (λ e. A ++ (between s p.base ++ (between e q.base ++ R))) cut.ends ∙ sym (gaps-append CODE_START low (p ∷ q ∷ qs));
      ends = kept.ends ∙ last-append CODE_START low (q ∷ qs) ∙ sym (last-append CODE_START low (p ∷ q ∷ qs));
    }
  where
    drop_next : {X : Type 0} (xs : List X) (y : X) (ys : List X) (n : ℕ) → length xs ≡ n → drop (suc n) (xs ++ y ∷ ys) ≡ ys
    drop_next [] y ys n e = subst (λ k. drop (suc k) (y ∷ ys) ≡ ys) e refl
    drop_next (x ∷ xs) y ys n e = subst (λ k. drop (suc k) (x ∷ (xs ++ y ∷ ys)) ≡ ys) e (drop_next xs y ys (length xs) refl)

-- the gap below a range that is given back
pub given_below : (low : List Placement) (p : Placement) (high : List Placement) (gs mid : List Gap) (last base end at start : ℕ) → IsCut low p high base end → AreGaps gs last (low ++ p ∷ high) → at ≡ ending_below base gs →
    start ≡ start_to base (drop at gs) → mid ≡ take at gs ++ rest_to base (drop at gs) →
    (at ≡ length (gaps_below CODE_START low)) × (start ≡ last_end CODE_START low) × (mid ≡ gaps_below CODE_START low ++ gaps_below (end_of p) high)
given_below low p high gs mid last base end at start cut kept count from written =
    let A = gaps_below CODE_START low in
    let s = last_end CODE_START low in
    let around = apart_around CODE_START low p high CODE_END cut.apart in
    let place : at ≡ length A = count ∙ ap (λ b. ending_below b gs) cut.starts ∙ ap (ending_below p.base) kept.below ∙ counted CODE_START low p high CODE_END cut.apart in
    let is : gs ≡ A ++ (between s p.base ++ gaps_below (end_of p) high) = kept.below ∙ gaps-append CODE_START low (p ∷ high) in
    let front : take at gs ≡ A = ap (take at) is ∙ take_at A (between s p.base ++ gaps_below (end_of p) high) at (sym place) in
    let back : drop at gs ≡ between s p.base ++ gaps_below (end_of p) high = ap (drop at) is ∙ drop_at A (between s p.base ++ gaps_below (end_of p) high) at (sym place) in
    let joined = joined_below s p.base (end_of p) high CODE_END around.2 around.0 (omega (arith, around.1)) in (
      place,
      from ∙ ap (λ b. start_to b (drop at gs)) cut.starts ∙ ap (start_to p.base) back ∙ joined.0,
      written ∙ ap (λ f. f ++ rest_to base (drop at gs)) front ∙ ap (λ b. A ++ rest_to b (drop at gs)) cut.starts ∙ ap (λ r. A ++ rest_to p.base r) back ∙ ap (λ r. A ++ r) joined.1,
    )

-- the last range given back
pub given_last : (low : List Placement) (p : Placement) (high : List Placement) (gs mid : List Gap) (last base end start : ℕ) → IsCut low p high base end → AreGaps gs last (low ++ p ∷ high) → end ≡ last →
    start ≡ last_end CODE_START low → mid ≡ gaps_below CODE_START low ++ gaps_below (end_of p) high → AreGaps mid start (low ++ high)
given_last low p [] gs mid last base end start cut kept ends from written =
    record { below = written ∙ sym (gaps-append CODE_START low []); ends = from ∙ sym (last-append CODE_START low []) }
given_last low p (q ∷ qs) gs mid last base end start cut kept ends from written =
    let around = apart_around CODE_START low p (q ∷ qs) CODE_END cut.apart in
    let top : last ≡ last_end (end_of q) qs = kept.ends ∙ last-append CODE_START low (p ∷ q ∷ qs) in
    absurd (omega (arith, top, ends, cut.ends, around.2.0, around.2.1, last_from (end_of q) qs CODE_END around.2.2))

-- a range between others given back
pub given_between : (low : List Placement) (p : Placement) (high : List Placement) (gs mid rest now : List Gap) (last base end at start top : ℕ) → IsCut low p high base end → AreGaps gs last (low ++ p ∷ high) → end ≢ last →
    at ≡ length (gaps_below CODE_START low) → start ≡ last_end CODE_START low → mid ≡ gaps_below CODE_START low ++ gaps_below (end_of p) high →
    top ≡ end_from end (drop at mid) → rest ≡ take at mid ++ rest_from end (drop at mid) → now ≡ take at rest ++ (between start top ++ drop at rest) → AreGaps now last (low ++ high)
given_between low p [] gs mid rest now last base end at start top cut kept differ place from is upper left written =
    absurd (differ (cut.ends ∙ sym (kept.ends ∙ last-append CODE_START low (p ∷ []))))
given_between low p (q ∷ qs) gs mid rest now last base end at start top cut kept differ place from is upper left written =
    let A = gaps_below CODE_START low in
    let s = last_end CODE_START low in
    let R = gaps_below (end_of q) qs in
    let around = apart_around CODE_START low p (q ∷ qs) CODE_END cut.apart in
    let joined = joined_above (end_of p) q qs CODE_END around.2 in
    let front : take at mid ≡ A = ap (take at) is ∙ take_at A (gaps_below (end_of p) (q ∷ qs)) at (sym place) in
    let back : drop at mid ≡ gaps_below (end_of p) (q ∷ qs) = ap (drop at) is ∙ drop_at A (gaps_below (end_of p) (q ∷ qs)) at (sym place) in
    let top_is : top ≡ q.base = upper ∙ ap (λ e. end_from e (drop at mid)) cut.ends ∙ ap (end_from (end_of p)) back ∙ joined.0 in
    let rest_is : rest ≡ A ++ R = left ∙ ap (λ f. f ++ rest_from end (drop at mid)) front ∙ ap (λ e. A ++ rest_from e (drop at mid)) cut.ends ∙ ap (λ r. A ++ rest_from (end_of p) r) back ∙ ap (λ r. A ++ r) joined.1 in
    let now_is : now ≡ A ++ (between s q.base ++ R) = written ∙ ap (λ r. take at r ++ (between start top ++ drop at r)) rest_is ∙ ap (λ f. f ++ (between start top ++ drop at (A ++ R))) (take_at A R at (sym place)) ∙ ap (λ r. A ++ (between start top ++ r)) (drop_at A R at (sym place)) ∙ ap (λ b. A ++ (between b top ++ R)) from ∙ ap (λ b. A ++ (between s b ++ R)) top_is in
    record {
      below = now_is ∙ sym (gaps-append CODE_START low (q ∷ qs));
      ends = kept.ends ∙ last-append CODE_START low (p ∷ q ∷ qs) ∙ sym (last-append CODE_START low (q ∷ qs));
    }
