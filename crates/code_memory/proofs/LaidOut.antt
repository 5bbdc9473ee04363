-- Placements stay laid out as one is added, filled or taken away, and so are their deposits.
use Rattle.std.proofs.Common.{◌≡◌, ℕ, Option, Some, None, ◌+◌, ◌<◌, ◌≤◌, List, [], ◌∷◌, ◌++◌, length, refl, ap, ◌∙◌, cond, subst, arith}
use Rattle.std.specs.Prelude.{find, IfSome}
use Rattle.orc_ids.specs.declared.ids.UnitId.{UnitId}
use Rattle.orc_ids.specs.declared.limits.TheConstants.{CODE_START, CODE_END}
use Rattle.code_memory.specs.declared.image.Segment.{Segment}
use Rattle.code_memory.specs.declared.placement.Placement.{Placement}
use Rattle.code_memory.specs.Apart.{AreApart}
use Rattle.code_memory.specs.Gaps.{end_of}
use Rattle.code_memory.specs.Mapped.{AreSegments}
use Rattle.code_memory.specs.Places.{is_of, deposits, before, IsWhole, AreWhole, AreDistinct, AreBetween, AreLaidOut}
use Rattle.code_memory.proofs.Between.{apart_from}
use Rattle.code_memory.proofs.Units.{none_next, turned, find-insert}

-- a placement with other bytes
abbrev pub with : Placement → Option (List ℕ) → Placement
with p bytes = record p { bytes = bytes }

apart-remove : (low : ℕ) (xs : List Placement) (p : Placement) (ys : List Placement) (high : ℕ) → AreBetween low (xs ++ p ∷ ys) high → AreBetween low (xs ++ ys) high
apart-remove low [] p ys high apart = apart_from (end_of p) low ys high (omega (arith, apart.0)) apart.2
apart-remove low (x ∷ xs) p ys high apart = (apart.0, apart.1, apart-remove (end_of x) xs p ys high apart.2)

apart-set : (low : ℕ) (xs : List Placement) (p : Placement) (bytes : Option (List ℕ)) (ys : List Placement) (high : ℕ) → AreBetween low (xs ++ p ∷ ys) high → AreBetween low (xs ++ with p bytes ∷ ys) high
apart-set low [] p bytes ys high apart = apart
apart-set low (x ∷ xs) p bytes ys high apart = (apart.0, apart.1, apart-set (end_of x) xs p bytes ys high apart.2)

whole-insert : (xs : List Placement) (p : Placement) (ys : List Placement) → AreWhole (xs ++ ys) → IsWhole p → AreWhole (xs ++ p ∷ ys)
whole-insert [] p ys all one = (one, all)
whole-insert (x ∷ xs) p ys all one = (all.0, whole-insert xs p ys all.1 one)

whole-remove : (xs : List Placement) (p : Placement) (ys : List Placement) → AreWhole (xs ++ p ∷ ys) → AreWhole (xs ++ ys)
whole-remove [] p ys all = all.1
whole-remove (x ∷ xs) p ys all = (all.0, whole-remove xs p ys all.1)

whole-set : (xs : List Placement) (p : Placement) (bytes : List ℕ) (ys : List Placement) → AreWhole (xs ++ p ∷ ys) → length bytes ≡ p.shape.need → AreWhole (xs ++ with p (Some bytes) ∷ ys)
whole-set [] p bytes ys all long = (record { aligned = all.0.aligned; full = long }, all.1)
whole-set (x ∷ xs) p bytes ys all long = (all.0, whole-set xs p bytes ys all.1 long)

distinct-insert : (xs : List Placement) (p : Placement) (ys : List Placement) → AreDistinct (xs ++ ys) → find (is_of p.unit) (xs ++ ys) ≡ None → AreDistinct (xs ++ p ∷ ys)
distinct-insert [] p ys all none = (none, all)
distinct-insert (x ∷ xs) p ys all none =
    let both = none_next p.unit x (find (is_of p.unit) (xs ++ ys)) (is_of p.unit x) refl none in
    (find-insert x.unit xs p ys both.1 ∙ ap (λ b. cond b (Some p) (find (is_of x.unit) (xs ++ ys))) (turned p.unit x.unit p x refl refl both.0) ∙ all.0, distinct-insert xs p ys all.1 both.1)

find-remove : (v : UnitId) (xs : List Placement) (p : Placement) (ys : List Placement) → find (is_of v) (xs ++ p ∷ ys) ≡ None → find (is_of v) (xs ++ ys) ≡ None
find-remove v [] p ys none = (none_next v p (find (is_of v) ys) (is_of v p) refl none).1
find-remove v (x ∷ xs) p ys none =
    let both = none_next v x (find (is_of v) (xs ++ p ∷ ys)) (is_of v x) refl none in
    ap (λ b. cond b (Some x) (find (is_of v) (xs ++ ys))) both.0 ∙ find-remove v xs p ys both.1

distinct-remove : (xs : List Placement) (p : Placement) (ys : List Placement) → AreDistinct (xs ++ p ∷ ys) → AreDistinct (xs ++ ys)
distinct-remove [] p ys all = all.1
distinct-remove (x ∷ xs) p ys all = (find-remove x.unit xs p ys all.0, distinct-remove xs p ys all.1)

find-set : (v : UnitId) (xs : List Placement) (p : Placement) (bytes : Option (List ℕ)) (ys : List Placement) → find (is_of v) (xs ++ p ∷ ys) ≡ None → find (is_of v) (xs ++ with p bytes ∷ ys) ≡ None
find-set v [] p bytes ys none =
    let both = none_next v p (find (is_of v) ys) (is_of v p) refl none in
    ap (λ b. cond b (Some (with p bytes)) (find (is_of v) ys)) both.0 ∙ both.1
find-set v (x ∷ xs) p bytes ys none =
    let both = none_next v x (find (is_of v) (xs ++ p ∷ ys)) (is_of v x) refl none in
    ap (λ b. cond b (Some x) (find (is_of v) (xs ++ with p bytes ∷ ys))) both.0 ∙ find-set v xs p bytes ys both.1

distinct-set : (xs : List Placement) (p : Placement) (bytes : Option (List ℕ)) (ys : List Placement) → AreDistinct (xs ++ p ∷ ys) → AreDistinct (xs ++ with p bytes ∷ ys)
distinct-set [] p bytes ys all = all
distinct-set (x ∷ xs) p bytes ys all = (find-set x.unit xs p bytes ys all.0, distinct-set xs p bytes ys all.1)

pub laid_out-insert : (xs : List Placement) (p : Placement) (ys : List Placement) → AreLaidOut (xs ++ ys) → AreBetween CODE_START (xs ++ p ∷ ys) CODE_END → IsWhole p → find (is_of p.unit) (xs ++ ys) ≡ None → AreLaidOut (xs ++ p ∷ ys)
laid_out-insert xs p ys laid apart whole none =
    record { apart = apart; whole = whole-insert xs p ys laid.whole whole; distinct = distinct-insert xs p ys laid.distinct none }

pub laid_out-remove : (xs : List Placement) (p : Placement) (ys : List Placement) → AreLaidOut (xs ++ p ∷ ys) → AreLaidOut (xs ++ ys)
laid_out-remove xs p ys laid =
    record { apart = apart-remove CODE_START xs p ys CODE_END laid.apart; whole = whole-remove xs p ys laid.whole; distinct = distinct-remove xs p ys laid.distinct }

pub laid_out-set : (xs : List Placement) (p : Placement) (bytes : List ℕ) (ys : List Placement) → AreLaidOut (xs ++ p ∷ ys) → length bytes ≡ p.shape.need → AreLaidOut (xs ++ with p (Some bytes) ∷ ys)
laid_out-set xs p bytes ys laid long =
    record { apart = apart-set CODE_START xs p (Some bytes) ys CODE_END laid.apart; whole = whole-set xs p bytes ys laid.whole long; distinct = distinct-set xs p (Some bytes) ys laid.distinct }

segments_from : (low low' : ℕ) (xs : List Segment) (high : ℕ) → low' ≤ low → AreApart (λ s. s.base) (λ s. length s.bytes) low xs high → AreApart (λ s. s.base) (λ s. length s.bytes) low' xs high
segments_from low low' [] high below apart = omega arith
segments_from low low' (x ∷ xs) high below apart = (omega (arith, apart.0), apart.1, apart.2)

deposit_apart : (low : ℕ) (p : Placement) (rest : List Segment) (high : ℕ) (bytes : Option (List ℕ)) → p.bytes ≡ bytes → IsWhole p → low ≤ p.base → 0 < p.shape.need → AreApart (λ s. s.base) (λ s. length s.bytes) (end_of p) rest high → AreApart (λ s. s.base) (λ s. length s.bytes) low (before p.base bytes rest) high
deposit_apart low p rest high None is whole below some apart = segments_from (end_of p) low rest high (omega arith) apart
deposit_apart low p rest high (Some bytes) is whole below some apart =
    let full : length bytes ≡ p.shape.need = subst (λ o. IfSome o (λ b. length b ≡ p.shape.need)) is whole.full in
    (below, omega arith, segments_from (end_of p) (p.base + length bytes) rest high (omega arith) apart)

apart-deposits : (low : ℕ) (ps : List Placement) (high : ℕ) → AreBetween low ps high → AreWhole ps → AreApart (λ s. s.base) (λ s. length s.bytes) low (deposits ps) high
apart-deposits low [] high apart all = apart
apart-deposits low (p ∷ ps) high apart all =
    deposit_apart low p (deposits ps) high p.bytes refl all.0 apart.0 apart.1 (apart-deposits (end_of p) ps high apart.2 all.1)

-- deposits of what is laid out lie apart in code memory
pub code_deposits : (ps : List Placement) → AreLaidOut ps → AreSegments (deposits ps)
code_deposits ps laid = apart-deposits CODE_START ps CODE_END laid.apart laid.whole
