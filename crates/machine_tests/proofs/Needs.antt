-- The list of needs is kept as code memory is called.
use Rattle.std.proofs.Common.{◌≡◌, ℕ, zero, suc, Bool, true, false, cond, List, [], ◌∷◌, slice_get, subst, sym, refl, ap, ◌∙◌, Option, Some, None, option_map}
use Rattle.std.specs.Prelude.{IsSome, IsSomeAnd, slice_set, ◌==◌}
use Rattle.std.proofs.lemmas.Bool.{both_ways, eqb-true, eq-eqb}
use Rattle.std.proofs.lemmas.Option.{none-some, same_Some}
use Rattle.orc_ids.specs.declared.ids.UnitId.{UnitId}
use Rattle.orc_ids.specs.declared.place.Shape.{Shape}
use Rattle.code_memory.specs.declared.placement.Placement.{Placement}
use Rattle.code_memory.specs.Places.{placement_of, is_of, with_bytes, with_range, without}
use Rattle.code_memory.proofs.Placed.{range_other, range_own, without_other, without_own}
use Rattle.machine_tests.specs.Needs.{need_of, Agree}

-- Lists

set_own : {X : Type 0} (xs : List X) (i : ℕ) (x y : X) → slice_get (slice_set xs i x) i ≡ Some y → x ≡ y
set_own [] i x y e = absurd (none-some y e)
set_own (z ∷ zs) zero x y e = same_Some x y e
set_own (z ∷ zs) (suc i) x y e = set_own zs i x y e

set_other : {X : Type 0} (xs : List X) (i j : ℕ) (x : X) → (i ≡ j → ⊥) → slice_get (slice_set xs i x) j ≡ slice_get xs j
set_other [] i j x n = refl
set_other (z ∷ zs) zero zero x n = absurd (n refl)
set_other (z ∷ zs) zero (suc j) x n = refl
set_other (z ∷ zs) (suc i) zero x n = refl
set_other (z ∷ zs) (suc i) (suc j) x n = set_other zs i j x (λ e. n (ap (λ k. suc k) e))

-- one unit's need changes, and no other unit's
changed : (ps qs : List Placement) (needs : List (Option ℕ)) (u : ℕ) (need : Option ℕ) → Agree ps needs → need_of qs u ≡ need → ((v : ℕ) → (u == v) ≡ false → need_of qs v ≡ need_of ps v) → Agree qs (slice_set needs u need)
changed ps qs needs u need a own others = record { each = λ v other at. split v other (u == v) refl at }
  where
    split : (v : ℕ) (other : Option ℕ) (b : Bool) → (u == v) ≡ b → slice_get (slice_set needs u need) v ≡ Some other → need_of qs v ≡ other
    split v other true t at =
        let same : u ≡ v = eqb-true u v t in
        subst (λ w. need_of qs w ≡ other) same (own ∙ set_own needs u need other (subst (λ w. slice_get (slice_set needs u need) w ≡ Some other) (sym same) at))
    split v other false f at = others v f ∙ a.each v other (sym (set_other needs u v need (λ e. both_ways (u == v) f (eq-eqb u v e))) ∙ at)

-- What is known of a unit

no_need : (o : Option Placement) → option_map (λ (p : Placement). p.shape.need) o ≡ None → o ≡ None
no_need None e = refl
no_need (Some p) e = absurd (none-some p.shape.need (sym e))

pub absent : (ps : List Placement) (needs : List (Option ℕ)) (u : ℕ) → Agree ps needs → slice_get needs u ≡ Some None → placement_of ps (record { 0 = u }) ≡ None
absent ps needs u a at = no_need (placement_of ps (record { 0 = u })) (a.each u None at)

some_need : (n : ℕ) (o : Option Placement) → option_map (λ (p : Placement). p.shape.need) o ≡ Some n → IsSomeAnd o (λ p. n ≡ p.shape.need)
some_need n None e = absurd (none-some n e)
some_need n (Some p) e = sym (same_Some p.shape.need n e)

pub there : (ps : List Placement) (needs : List (Option ℕ)) (u n : ℕ) → Agree ps needs → slice_get needs u ≡ Some (Some n) → IsSomeAnd (placement_of ps (record { 0 = u })) (λ p. n ≡ p.shape.need)
there ps needs u n a at = some_need n (placement_of ps (record { 0 = u })) (a.each u (Some n) at)

is_there : (n : ℕ) (o : Option Placement) → IsSomeAnd o (λ p. n ≡ p.shape.need) → IsSome o
is_there n None e = absurd e
is_there n (Some p) e = refl

pub found : (ps : List Placement) (u n : ℕ) → IsSomeAnd (placement_of ps (record { 0 = u })) (λ p. n ≡ p.shape.need) → IsSome (placement_of ps (record { 0 = u }))
found ps u n e = is_there n (placement_of ps (record { 0 = u })) e

-- The calls

abbrev need : Option Placement → Option ℕ
need o = option_map (λ (p : Placement). p.shape.need) o

pub placed : (ps : List Placement) (needs : List (Option ℕ)) (u : ℕ) (shape : Shape) (base : ℕ) → Agree ps needs → placement_of ps (record { 0 = u }) ≡ None → Agree (with_range ps (record { 0 = u }) shape base) (slice_set needs u (Some shape.need))
placed ps needs u shape base a none =
    changed ps (with_range ps (record { 0 = u }) shape base) needs u (Some shape.need) a (ap need (range_own ps (record { 0 = u }) shape base none)) (λ v n. ap need (range_other ps (record { 0 = u }) shape base (record { 0 = v }) n))

pub freed : (ps : List Placement) (needs : List (Option ℕ)) (u : ℕ) → Agree ps needs → Agree (without ps (record { 0 = u })) (slice_set needs u None)
freed ps needs u a =
    changed ps (without ps (record { 0 = u })) needs u None a (ap need (without_own ps (record { 0 = u }))) (λ v n. ap need (without_other ps (record { 0 = u }) (record { 0 = v }) n))

filled_need : (u : UnitId) (bytes : List ℕ) (q : Placement) (b : Bool) (v : UnitId) (rest other : Option Placement) → need rest ≡ need other →
    need (cond (is_of v (cond b (record q { bytes = Some bytes }) q)) (Some (cond b (record q { bytes = Some bytes }) q)) rest) ≡ need (cond (is_of v q) (Some q) other)
filled_need u bytes q true v rest other e = either (is_of v q)
  where
    either : (c : Bool) → need (cond c (Some (record q { bytes = Some bytes })) rest) ≡ need (cond c (Some q) other)
    either true = refl
    either false = e
filled_need u bytes q false v rest other e = either (is_of v q)
  where
    either : (c : Bool) → need (cond c (Some q) rest) ≡ need (cond c (Some q) other)
    either true = refl
    either false = e

filled_needs : (u : UnitId) (bytes : List ℕ) (ps : List Placement) (v : UnitId) → need (placement_of (with_bytes ps u bytes) v) ≡ need (placement_of ps v)
filled_needs u bytes [] v = refl
filled_needs u bytes (q ∷ qs) v = filled_need u bytes q (is_of u q) v (placement_of (with_bytes qs u bytes) v) (placement_of qs v) (filled_needs u bytes qs v)

pub deposited : (ps : List Placement) (needs : List (Option ℕ)) (u : UnitId) (bytes : List ℕ) → Agree ps needs → Agree (with_bytes ps u bytes) needs
deposited ps needs u bytes a = record { each = λ v other at. filled_needs u bytes ps (record { 0 = v }) ∙ a.each v other at }
