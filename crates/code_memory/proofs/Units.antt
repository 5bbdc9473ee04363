-- The one placement of a unit, among those of others.
use Rattle.std.proofs.Common.{◌≡◌, ◌≢◌, ⊎_elim, ℕ, Bool, true, false, Option, Some, None, List, [], ◌∷◌, ◌++◌, map, refl, ap, sym, ◌∙◌, cond, subst}
use Rattle.std.specs.Prelude.{find, filter, not, ◌==◌}
use Rattle.std.proofs.lemmas.Bool.{eq-eqb, eqb-true}
use Rattle.std.proofs.lemmas.Bool.Decides.{eqb_tells}
use Rattle.orc_ids.specs.declared.ids.UnitId.{UnitId}
use Rattle.code_memory.specs.declared.placement.Placement.{Placement}
use Rattle.code_memory.specs.Places.{is_of, is_other, filled, with_bytes, without, AreDistinct}

-- where a search finds none, the first isn't it and the others have none
pub none_next : (u : UnitId) (q : Placement) (rest : Option Placement) (b : Bool) → is_of u q ≡ b → cond b (Some q) rest ≡ None → (is_of u q ≡ false) × (rest ≡ None)
none_next u q rest true own found = absurd cc
none_next u q rest false other found = (other, found)

pub turned : (u v : UnitId) (p q : Placement) → p.unit ≡ u → q.unit ≡ v → is_of u q ≡ false → is_of v p ≡ false
turned u v p q e f other =
    let apart = eqb_tells p.unit.0 v.0 in
    ⊎_elim (λ (h : (is_of v p ≡ true) × (p.unit.0 ≡ v.0)).
    let same : q.unit.0 ≡ u.0 = ap (λ (x : UnitId). x.0) f ∙ sym h.1 ∙ ap (λ (x : UnitId). x.0) e in
    let no : true ≡ false = sym (eq-eqb q.unit.0 u.0 same) ∙ other in absurd cc)
    (λ (h : (is_of v p ≡ false) × (p.unit.0 ≢ v.0)). h.0) apart

-- the unit's placement, and the others on both sides
pub record IsOwned (u : UnitId) (ps : List Placement) (p : Placement) : Type 0 where
  pub front : List Placement
  pub back : List Placement
  pub split : ps ≡ front ++ p ∷ back
  pub own : is_of u p ≡ true
  pub before : find (is_of u) front ≡ None
  pub after : find (is_of u) back ≡ None

none_by : (u v : UnitId) (ps : List Placement) → u.0 ≡ v.0 → find (is_of u) ps ≡ None → find (is_of v) ps ≡ None
none_by u v ps same none = subst (λ k. find (λ (p : Placement). p.unit.0 == k) ps ≡ None) same none

owned_first : (u : UnitId) (q p : Placement) (ps : List Placement) (b : Bool) → is_of u q ≡ b → cond b (Some q) (find (is_of u) ps) ≡ Some p → find (is_of q.unit) ps ≡ None → (find (is_of u) ps ≡ Some p → IsOwned u ps p) → IsOwned u (q ∷ ps) p
owned_first u q p ps true own found none next =
    let same : q ≡ p = cc in
    record { front = []; back = ps; split = ap (λ x. x ∷ ps) same; own = sym (ap (is_of u) same) ∙ own; before = refl; after = none_by q.unit u ps (eqb-true q.unit.0 u.0 own) none }
owned_first u q p ps false other found none next =
    let o = next found in
    record { front = q ∷ o.front; back = o.back; split = ap (λ xs. q ∷ xs) o.split; own = o.own; before = ap (λ b. cond b (Some q) (find (is_of u) o.front)) other ∙ o.before; after = o.after }

pub owned : (u : UnitId) (ps : List Placement) (p : Placement) → AreDistinct ps → find (is_of u) ps ≡ Some p → IsOwned u ps p
owned u [] p distinct found = absurd cc
owned u (q ∷ ps) p distinct found = owned_first u q p ps (is_of u q) refl found distinct.0 (owned u ps p distinct.1)

filled_none : (u : UnitId) (bytes : List ℕ) (ps : List Placement) → find (is_of u) ps ≡ None → map (filled u bytes) ps ≡ ps
filled_none u bytes [] none = refl
filled_none u bytes (p ∷ ps) none =
    let both = none_next u p (find (is_of u) ps) (is_of u p) refl none in
    ap (λ b. cond b (record p { bytes = Some bytes }) p ∷ map (filled u bytes) ps) both.0 ∙ ap (λ xs. p ∷ xs) (filled_none u bytes ps both.1)

fill_split : (u : UnitId) (bytes : List ℕ) (xs : List Placement) (p : Placement) (ys : List Placement) → is_of u p ≡ true → find (is_of u) xs ≡ None → find (is_of u) ys ≡ None → map (filled u bytes) (xs ++ p ∷ ys) ≡ xs ++ record p { bytes = Some bytes } ∷ ys
fill_split u bytes [] p ys own before after =
    ap (λ b. cond b (record p { bytes = Some bytes }) p ∷ map (filled u bytes) ys) own ∙ ap (λ xs. record p { bytes = Some bytes } ∷ xs) (filled_none u bytes ys after)
fill_split u bytes (x ∷ xs) p ys own before after =
    let both = none_next u x (find (is_of u) xs) (is_of u x) refl before in
    ap (λ b. cond b (record x { bytes = Some bytes }) x ∷ map (filled u bytes) (xs ++ p ∷ ys)) both.0 ∙ ap (λ qs. x ∷ qs) (fill_split u bytes xs p ys own both.1 after)

pub fill-owned : (u : UnitId) (bytes : List ℕ) (ps : List Placement) (p : Placement) (o : IsOwned u ps p) → with_bytes ps u bytes ≡ o.front ++ record p { bytes = Some bytes } ∷ o.back
fill-owned u bytes ps p o = ap (map (filled u bytes)) o.split ∙ fill_split u bytes o.front p o.back o.own o.before o.after

without_none : (u : UnitId) (ps : List Placement) → find (is_of u) ps ≡ None → filter (is_other u) ps ≡ ps
without_none u [] none = refl
without_none u (p ∷ ps) none =
    let both = none_next u p (find (is_of u) ps) (is_of u p) refl none in
    ap (λ b. cond (not b) (p ∷ filter (is_other u) ps) (filter (is_other u) ps)) both.0 ∙ ap (λ xs. p ∷ xs) (without_none u ps both.1)

without_split : (u : UnitId) (xs : List Placement) (p : Placement) (ys : List Placement) → is_of u p ≡ true → find (is_of u) xs ≡ None → find (is_of u) ys ≡ None → filter (is_other u) (xs ++ p ∷ ys) ≡ xs ++ ys
without_split u [] p ys own before after = ap (λ b. cond (not b) (p ∷ filter (is_other u) ys) (filter (is_other u) ys)) own ∙ without_none u ys after
without_split u (x ∷ xs) p ys own before after =
    let both = none_next u x (find (is_of u) xs) (is_of u x) refl before in
    ap (λ b. cond (not b) (x ∷ filter (is_other u) (xs ++ p ∷ ys)) (filter (is_other u) (xs ++ p ∷ ys))) both.0 ∙ ap (λ qs. x ∷ qs) (without_split u xs p ys own both.1 after)

pub without-owned : (u : UnitId) (ps : List Placement) (p : Placement) (o : IsOwned u ps p) → without ps u ≡ o.front ++ o.back
without-owned u ps p o = ap (filter (is_other u)) o.split ∙ without_split u o.front p o.back o.own o.before o.after

-- a search among placements with one more, of a unit that had none
pub find-insert : (v : UnitId) (xs : List Placement) (p : Placement) (ys : List Placement) → find (is_of p.unit) (xs ++ ys) ≡ None → find (is_of v) (xs ++ p ∷ ys) ≡ cond (is_of v p) (Some p) (find (is_of v) (xs ++ ys))
find-insert v [] p ys none = refl
find-insert v (x ∷ xs) p ys none =
    let both = none_next p.unit x (find (is_of p.unit) (xs ++ ys)) (is_of p.unit x) refl none in
    let rest = find-insert v xs p ys both.1 in
    by (is_of v x) (is_of v p) refl refl both.0 rest
  where
    by : (a b : Bool) → is_of v x ≡ a → is_of v p ≡ b → is_of p.unit x ≡ false → find (is_of v) (xs ++ p ∷ ys) ≡ cond (is_of v p) (Some p) (find (is_of v) (xs ++ ys)) →
        cond (is_of v x) (Some x) (find (is_of v) (xs ++ p ∷ ys)) ≡ cond (is_of v p) (Some p) (cond (is_of v x) (Some x) (find (is_of v) (xs ++ ys)))
    by true true e f other rest =
        let same : x.unit.0 ≡ p.unit.0 = eqb-true x.unit.0 v.0 e ∙ sym (eqb-true p.unit.0 v.0 f) in
        let no : true ≡ false = sym (eq-eqb x.unit.0 p.unit.0 same) ∙ other in absurd cc
    by true false e f other rest =
        ap (λ b. cond b (Some x) (find (is_of v) (xs ++ p ∷ ys))) e ∙ sym (ap (λ b. cond b (Some p) (cond (is_of v x) (Some x) (find (is_of v) (xs ++ ys)))) f ∙ ap (λ b. cond b (Some x) (find (is_of v) (xs ++ ys))) e)
    by false b e f other rest =
        ap (λ b. cond b (Some x) (find (is_of v) (xs ++ p ∷ ys))) e ∙ rest ∙ ap (λ b. cond (is_of v p) (Some p) (cond b (Some x) (find (is_of v) (xs ++ ys)))) (sym e)

-- a unit's placement is not among the others
pub find-owned : (v : UnitId) (xs : List Placement) (p : Placement) (ys : List Placement) → find (is_of p.unit) xs ≡ None → find (is_of p.unit) ys ≡ None → find (is_of p.unit) (xs ++ ys) ≡ None
find-owned v [] p ys before after = after
find-owned v (x ∷ xs) p ys before after =
    let both = none_next p.unit x (find (is_of p.unit) xs) (is_of p.unit x) refl before in
    ap (λ b. cond b (Some x) (find (is_of p.unit) (xs ++ ys))) both.0 ∙ find-owned v xs p ys both.1 after
