-- The placement of a unit, after another one or its own was added, filled or taken away.
use Rattle.std.proofs.Common.{◌≡◌, ◌≢◌, ⊎_elim, ℕ, Bool, true, false, Option, Some, None, List, [], ◌∷◌, refl, ap, sym, ◌∙◌, cond}
use Rattle.std.specs.Prelude.{find, not, nat_lt, ◌==◌, Result, Ok, Err, IfOk, OnErr}
use Rattle.std.proofs.lemmas.Bool.Decides.{eqb_tells}
use Rattle.orc_ids.specs.declared.ids.UnitId.{UnitId}
use Rattle.orc_ids.specs.declared.place.Shape.{Shape}
use Rattle.code_memory.specs.declared.placement.Placement.{Placement}
use Rattle.code_memory.specs.declared.space.SpaceError.{SpaceError}
use Rattle.code_memory.specs.Places.{is_of, placed_among, placement_of, with_range, without}
use Rattle.code_memory.proofs.Units.{none_next}

among_other : (v : UnitId) (p : Placement) (ps : List Placement) → is_of v p ≡ false → find (is_of v) (placed_among p ps) ≡ find (is_of v) ps
among_other v p [] other = ap (λ b. cond b (Some p) None) other
among_other v p (q ∷ qs) other =
    elim (nat_lt p.base q.base) as (λ b. find (is_of v) (cond b (p ∷ q ∷ qs) (q ∷ placed_among p qs)) ≡ find (is_of v) (q ∷ qs)) [
      | true ↦ ap (λ b. cond b (Some p) (find (is_of v) (q ∷ qs))) other
      | false ↦ ap (cond (is_of v q) (Some q)) (among_other v p qs other)
    ]

pub range_other : (ps : List Placement) (u : UnitId) (shape : Shape) (base : ℕ) (v : UnitId) → (u.0 == v.0) ≡ false → placement_of (with_range ps u shape base) v ≡ placement_of ps v
range_other ps u shape base v other = among_other v (record { unit = u; base = base; shape = shape; bytes = None }) ps other

among_own : (p : Placement) (ps : List Placement) → is_of p.unit p ≡ true → find (is_of p.unit) ps ≡ None → find (is_of p.unit) (placed_among p ps) ≡ Some p
among_own p [] own none = ap (λ b. cond b (Some p) None) own
among_own p (q ∷ qs) own none =
    let both = none_next p.unit q (find (is_of p.unit) qs) (is_of p.unit q) refl none in
    elim (nat_lt p.base q.base) as (λ b. find (is_of p.unit) (cond b (p ∷ q ∷ qs) (q ∷ placed_among p qs)) ≡ Some p) [
      | true ↦ ap (λ b. cond b (Some p) (find (is_of p.unit) (q ∷ qs))) own
      | false ↦ ap (λ b. cond b (Some q) (find (is_of p.unit) (placed_among p qs))) both.0 ∙ among_own p qs own both.1
    ]

pub range_own : (ps : List Placement) (u : UnitId) (shape : Shape) (base : ℕ) → placement_of ps u ≡ None → placement_of (with_range ps u shape base) u ≡ Some (record { unit = u; base = base; shape = shape; bytes = None })
range_own ps u shape base none =
    let own : (u.0 == u.0) ≡ true = ⊎_elim (λ (e : ((u.0 == u.0) ≡ true) × (u.0 ≡ u.0)). e.0) (λ (e : ((u.0 == u.0) ≡ false) × (u.0 ≢ u.0)). absurd (e.1 refl)) (eqb_tells u.0 u.0) in
    among_own (record { unit = u; base = base; shape = shape; bytes = None }) ps own none

same_number : (u v : UnitId) (q : Placement) → (u.0 == v.0) ≡ false → is_of u q ≡ true → is_of v q ≡ false
same_number u v q other own =
    ⊎_elim (λ (e : ((q.unit.0 == v.0) ≡ true) × (q.unit.0 ≡ v.0)).
    ⊎_elim (λ (f : ((q.unit.0 == u.0) ≡ true) × (q.unit.0 ≡ u.0)).
    ⊎_elim (λ (g : ((u.0 == v.0) ≡ true) × (u.0 ≡ v.0)). absurd (let no : true ≡ false = sym g.0 ∙ other in cc)) (λ (g : ((u.0 == v.0) ≡ false) × (u.0 ≢ v.0)). absurd (g.1 (sym f.1 ∙ e.1))) (eqb_tells u.0 v.0))
    (λ (f : ((q.unit.0 == u.0) ≡ false) × (q.unit.0 ≢ u.0)). absurd (let no : true ≡ false = sym own ∙ f.0 in cc)) (eqb_tells q.unit.0 u.0))
    (λ (e : ((q.unit.0 == v.0) ≡ false) × (q.unit.0 ≢ v.0)). e.0) (eqb_tells q.unit.0 v.0)

without_next : (u v : UnitId) (q : Placement) (kept all : Option Placement) (b : Bool) → is_of u q ≡ b → (u.0 == v.0) ≡ false → kept ≡ all → (rest : List Placement) → find (is_of v) rest ≡ kept → find (is_of v) (cond (not b) (q ∷ rest) rest) ≡ cond (is_of v q) (Some q) all
without_next u v q kept all true own other same rest is = is ∙ same ∙ sym (ap (λ b. cond b (Some q) all) (same_number u v q other own))
without_next u v q kept all false own other same rest is = ap (cond (is_of v q) (Some q)) (is ∙ same)

pub without_other : (ps : List Placement) (u v : UnitId) → (u.0 == v.0) ≡ false → placement_of (without ps u) v ≡ placement_of ps v
without_other [] u v other = refl
without_other (q ∷ qs) u v other =
    without_next u v q (placement_of (without qs u) v) (placement_of qs v) (is_of u q) refl other (without_other qs u v other) (without qs u) refl

pub without_own : (ps : List Placement) (u : UnitId) → placement_of (without ps u) u ≡ None
without_own [] u = refl
without_own (q ∷ qs) u = by (without_own qs u) (is_of u q) refl
  where
    by : find (is_of u) (without qs u) ≡ None → (b : Bool) → is_of u q ≡ b → find (is_of u) (cond (not b) (q ∷ without qs u) (without qs u)) ≡ None
    by rest true own = rest
    by rest false other = ap (λ b. cond b (Some q) (find (is_of u) (without qs u))) other ∙ rest

-- after a call of `place` for another unit, whatever it answered
pub place_other : (r : Result ℕ SpaceError) (old now : List Placement) (u : UnitId) (shape : Shape) (v : UnitId) → IfOk r (λ base. now ≡ with_range old u shape base) → OnErr r (now ≡ old) → (u.0 == v.0) ≡ false → placement_of now v ≡ placement_of old v
place_other (Ok base) old now u shape v is err other = ap (λ ps. placement_of ps v) is ∙ range_other old u shape base v other
place_other (Err e) old now u shape v is err other = ap (λ ps. placement_of ps v) err
