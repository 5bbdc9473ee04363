-- Of two placements one stands before the other.
use Rattle.std.proofs.Common.{◌≡◌, ◌≢◌, inl, inr, ℕ, Bool, true, false, Some, List, [], ◌∷◌, refl, ap, sym, ◌∙◌, cond, arith}
use Rattle.std.specs.Prelude.{find}
use Rattle.std.proofs.lemmas.Bool.{eqb-true}
use Rattle.orc_ids.specs.declared.ids.UnitId.{UnitId}
use Rattle.orc_ids.specs.declared.limits.TheConstants.{CODE_START, CODE_END}
use Rattle.code_memory.specs.declared.placement.Placement.{Placement}
use Rattle.code_memory.specs.Gaps.{end_of}
use Rattle.code_memory.specs.Places.{is_of, IsBeside, AreBetween}
use Rattle.code_memory.proofs.Deposited.{found_above}
use Rattle.code_memory.proofs.laws.placements_lie_apart.Goals as goal

found_first : (low : ℕ) (x : Placement) (ps : List Placement) (high : ℕ) (u v : UnitId) (p q : Placement) (a b : Bool) → AreBetween low (x ∷ ps) high → u.0 ≢ v.0 → is_of u x ≡ a → is_of v x ≡ b →
    cond a (Some x) (find (is_of u) ps) ≡ Some p → cond b (Some x) (find (is_of v) ps) ≡ Some q → (find (is_of u) ps ≡ Some p → find (is_of v) ps ≡ Some q → IsBeside p.base p.shape.need q) → IsBeside p.base p.shape.need q
found_first low x ps high u v p q true true apart differ e f first second rest = absurd (differ (sym (eqb-true x.unit.0 u.0 e) ∙ eqb-true x.unit.0 v.0 f))
found_first low x ps high u v p q true false apart differ e f first second rest =
    let same : x ≡ p = cc in
    let above = found_above (end_of x) ps high v q apart.2 second in
    let start : x.base ≡ p.base = ap (λ (y : Placement). y.base) same in
    let need : x.shape.need ≡ p.shape.need = ap (λ (y : Placement). y.shape.need) same in
    inl (omega (arith, above, start, need))
found_first low x ps high u v p q false true apart differ e f first second rest =
    let same : x ≡ q = cc in
    let above = found_above (end_of x) ps high u p apart.2 first in
    let start : x.base ≡ q.base = ap (λ (y : Placement). y.base) same in
    let need : x.shape.need ≡ q.shape.need = ap (λ (y : Placement). y.shape.need) same in
    inr (omega (arith, above, start, need))
found_first low x ps high u v p q false false apart differ e f first second rest = rest first second

apart_in : (low : ℕ) (ps : List Placement) (high : ℕ) (u v : UnitId) (p q : Placement) → AreBetween low ps high → u.0 ≢ v.0 → find (is_of u) ps ≡ Some p → find (is_of v) ps ≡ Some q → IsBeside p.base p.shape.need q
apart_in low [] high u v p q apart differ first second = absurd cc
apart_in low (x ∷ ps) high u v p q apart differ first second =
    found_first low x ps high u v p q (is_of u x) (is_of v x) apart differ refl refl first second (apart_in (end_of x) ps high u v p q apart.2 differ)

pub returns : goal.returns
returns c = λ ps u v p q laid differ first second. apart_in CODE_START ps CODE_END u v p q laid.apart differ first second
