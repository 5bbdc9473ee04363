-- A base is free in code memory where it is free beside the placements of the session's units.
use Rattle.std.proofs.Common.{◌≡◌, ℕ, zero, suc, ◌+◌, ◌≤◌, ◌⊎◌, inl, inr, Bool, true, false, cond, nat_lt, List, [], ◌∷◌, slice_get, subst, sym, refl, ap, ◌∙◌, Option, Some, None, option_map, arith}
use Rattle.std.specs.Prelude.{find, filter_map, option_and_then, ◌==◌}
use Rattle.std.specs.List.{cons_option, AllByRecursion}
use Rattle.std.proofs.lemmas.Bool.{cases_Bool, eqb-true, eq-eqb}
use Rattle.std.proofs.lemmas.List.Elements.{All-from_recursion, recursion_from_All}
use Rattle.std.proofs.lemmas.Option.{none-some, same_Some}
use Rattle.list_laws.proofs.Lists.{missing_past}
use Rattle.orc_ids.specs.declared.ids.UnitId.{UnitId}
use Rattle.orc_ids.specs.declared.place.Shape.{Shape}
use Rattle.session_model.specs.Plain.{UnitRow, unit_shape, placement, placements}
use Rattle.session_model.specs.declared.rows.Range.{Range}
use Rattle.session_model.specs.Answer.{Apart, IsFree}
use Rattle.session_laws.proofs.Declared.{chosen}
use Rattle.code_memory.specs.Places as places
use Rattle.code_memory.specs.Places.{placement_of, is_of, placed_among, IsBeside, IsBesideAll, AreDistinct}
use Rattle.code_memory.specs.declared.placement.Placement.{Placement}
use Rattle.session_parts.specs.Stored.{stored, range_at, AreStored}
use Rattle.session_steps.proofs.StoredMemory.{bare_range}

-- Lists

chosen_each : {X Y : Type 0} (P : Y → Type 0) (f : X → Option Y) (xs : List X) → AllByRecursion P (filter_map f xs) → (k : ℕ) (x : X) (y : Y) → slice_get xs k ≡ Some x → f x ≡ Some y → P y
chosen_each P f [] a k x y t e = absurd (none-some x t)
chosen_each {X} {Y} P f (z ∷ zs) a k x y t e = split (f z) refl a (chosen_each P f zs) k t
  where
    split : (o : Option Y) → f z ≡ o → AllByRecursion P (cons_option o (filter_map f zs)) → (AllByRecursion P (filter_map f zs) → (j : ℕ) (v : X) (w : Y) → slice_get zs j ≡ Some v → f v ≡ Some w → P w) → (k : ℕ) → slice_get (z ∷ zs) k ≡ Some x → P y
    split None g b rest zero h = absurd (none-some y (sym g ∙ (ap f (same_Some z x h) ∙ e)))
    split None g b rest (suc j) h = rest b j x y h e
    split (Some w) g b rest zero h = subst P (same_Some w y (sym g ∙ (ap f (same_Some z x h) ∙ e))) b.0
    split (Some w) g b rest (suc j) h = rest b.1 j x y h e

each_chosen : {X Y : Type 0} (P : Y → Type 0) (f : X → Option Y) (xs : List X) → ((k : ℕ) (x : X) (y : Y) → slice_get xs k ≡ Some x → f x ≡ Some y → P y) → AllByRecursion P (filter_map f xs)
each_chosen P f [] h = tt
each_chosen {X} {Y} P f (z ∷ zs) h = split (f z) refl (each_chosen P f zs (λ k x y t e. h (suc k) x y t e))
  where
    split : (o : Option Y) → f z ≡ o → AllByRecursion P (filter_map f zs) → AllByRecursion P (cons_option o (filter_map f zs))
    split None g rest = rest
    split (Some w) g rest = (h 0 z w refl g, rest)

-- Placements of code memory

none_first : (b : Bool) (q : Placement) (rest : Option Placement) → cond b (Some q) rest ≡ None → (b ≡ false) × (rest ≡ None)
none_first true q rest e = absurd (none-some q (sym e))
none_first false q rest e = (refl, e)

own_is : (p : Placement) → is_of p.unit p ≡ true
own_is p = eq-eqb p.unit.0 p.unit.0 refl

none_among : (u : UnitId) (p : Placement) (ps : List Placement) → find (is_of u) (placed_among p ps) ≡ None → find (is_of u) ps ≡ None
none_among u p [] none = refl
none_among u p (q ∷ qs) none = chosen (λ l. find (is_of u) l ≡ None → find (is_of u) (q ∷ qs) ≡ None) (nat_lt p.base q.base) (p ∷ q ∷ qs) (q ∷ placed_among p qs)
    (λ b e. (none_first (is_of u p) p (find (is_of u) (q ∷ qs)) e).1)
    (λ b e. let n = none_first (is_of u q) q (find (is_of u) (placed_among p qs)) e in ap (λ c. cond c (Some q) (find (is_of u) qs)) n.0 ∙ none_among u p qs n.1) none

pub distinct_among : (p : Placement) (ps : List Placement) → AreDistinct (placed_among p ps) → AreDistinct ps
distinct_among p [] d = tt
distinct_among p (q ∷ qs) d = chosen (λ l. AreDistinct l → AreDistinct (q ∷ qs)) (nat_lt p.base q.base) (p ∷ q ∷ qs) (q ∷ placed_among p qs)
    (λ b e. e.1)
    (λ b e. (none_among q.unit p qs e.0, distinct_among p qs e.1)) d

beside_found : (base need : ℕ) (ps : List Placement) (u : UnitId) (q : Placement) → IsBesideAll base need ps → find (is_of u) ps ≡ Some q → IsBeside base need q
beside_found base need [] u q a e = absurd (none-some q e)
beside_found base need (p ∷ ps) u q a e = chosen (λ o. o ≡ Some q → IsBeside base need q) (is_of u p) (Some p) (find (is_of u) ps)
    (λ b h. subst (IsBeside base need) (same_Some p q h) a.0)
    (λ b h. beside_found base need ps u q a.1 h) e

beside_all : (base need : ℕ) (ps : List Placement) → AreDistinct ps → ((q : Placement) → find (is_of q.unit) ps ≡ Some q → IsBeside base need q) → IsBesideAll base need ps
beside_all base need [] d h = tt
beside_all base need (p ∷ ps) d h = (h p (ap (λ b. cond b (Some p) (find (is_of p.unit) ps)) (own_is p)), beside_all base need ps d.1 (λ q e. h q (later q e (cases_Bool (is_of q.unit p)))))
  where
    later : (q : Placement) → find (is_of q.unit) ps ≡ Some q → (is_of q.unit p ≡ true) ⊎ (is_of q.unit p ≡ false) → find (is_of q.unit) (p ∷ ps) ≡ Some q
    later q e (inl t) = absurd (none-some q (sym d.0 ∙ (ap (λ n. find (λ (r : Placement). r.unit.0 == n) ps) (eqb-true p.unit.0 q.unit.0 t) ∙ e)))
    later q e (inr f) = ap (λ b. cond b (Some p) (find (is_of q.unit) ps)) f ∙ e

-- Both have the same ranges

-- a unit's placement is its range in code memory
in_memory : (p : List Placement) (u : ℕ) (x : UnitRow) (r : Range) → placement_of p (record { 0 = u }) ≡ stored u x → placement x ≡ Some r → (q : Placement) × (placement_of p (record { 0 = u }) ≡ Some q) × (q.base ≡ r.base) × (q.shape.need ≡ r.need)
in_memory p u x r k e = split x.base refl (unit_shape x) refl e
  where
    split : (o : Option ℕ) → x.base ≡ o → (shape : Option Shape) → unit_shape x ≡ shape → option_and_then (λ base. bare_range base shape) o ≡ Some r → (q : Placement) × (placement_of p (record { 0 = u }) ≡ Some q) × (q.base ≡ r.base) × (q.shape.need ≡ r.need)
    split None t shape s h = absurd (none-some r h)
    split (Some base) t None s h = absurd (none-some r h)
    split (Some base) t (Some shape) s h = let same : record { base = base; need = shape.need } ≡ r = same_Some _ r h in (
      range_at u x base shape,
      k ∙ (ap (λ o. option_and_then (λ b. option_map (range_at u x b) (unit_shape x)) o) t ∙ ap (λ o. option_map (range_at u x base) o) s),
      ap (λ (z : Range). z.base) same,
      ap (λ (z : Range). z.need) same,
    )

-- and a range of code memory is its unit's placement
in_session : (u : ℕ) (x : UnitRow) (q : Placement) → stored u x ≡ Some q → placement x ≡ Some (record { base = q.base; need = q.shape.need })
in_session u x q e = split x.base refl (unit_shape x) refl e
  where
    split : (o : Option ℕ) → x.base ≡ o → (shape : Option Shape) → unit_shape x ≡ shape → option_and_then (λ base. option_map (range_at u x base) shape) o ≡ Some q → placement x ≡ Some (record { base = q.base; need = q.shape.need })
    split None t shape s h = absurd (none-some q h)
    split (Some base) t None s h = absurd (none-some q h)
    split (Some base) t (Some shape) s h = ap (λ o. option_and_then (λ b. bare_range b (unit_shape x)) o) t ∙ (ap (bare_range base) s
        ∙ ap (λ (z : Placement). Some (record { base = z.base; need = z.shape.need })) (same_Some (range_at u x base shape) q h))

turned : (a b c d : ℕ) → (a ≤ b) ⊎ (c ≤ d) → (c ≤ d) ⊎ (a ≤ b)
turned a b c d (inl h) = inr h
turned a b c d (inr h) = inl h

-- what is free in code memory is free for the session
pub free_there : (units : List UnitRow) (p : List Placement) (shape : Shape) (base : ℕ) → AreStored units p → places.IsFree p shape base → IsFree units shape base
free_there units p shape base s f = record {
  aligned = f.aligned;
  starts = f.from_start;
  ends = f.to_end;
  apart = All-from_recursion (λ (r : Range). Apart r base shape.need) (placements units) (each_chosen (λ (r : Range). Apart r base shape.need) placement units apart);
}
  where
    apart : (u : ℕ) (x : UnitRow) (r : Range) → slice_get units u ≡ Some x → placement x ≡ Some r → Apart r base shape.need
    apart u x r t e = let q = in_memory p u x r (s.each u x t).range e in
        subst (λ n. (n ≤ base) ⊎ (base + shape.need ≤ r.base)) (let z : q.0.base + q.0.shape.need ≡ r.base + r.need = omega (arith, q.2, q.3) in z)
        (subst (λ n. (q.0.base + q.0.shape.need ≤ base) ⊎ (base + shape.need ≤ n)) q.2
        (turned (base + shape.need) q.0.base (q.0.base + q.0.shape.need) base (beside_found base shape.need p (record { 0 = u }) q.0 f.beside q.1)))

-- and the other way
pub free_here : (units : List UnitRow) (p : List Placement) (shape : Shape) (base : ℕ) → AreStored units p → AreDistinct p → IsFree units shape base → places.IsFree p shape base
free_here units p shape base s distinct f = record { aligned = f.aligned; from_start = f.starts; to_end = f.ends; beside = beside_all base shape.need p distinct beside }
  where
    all : AllByRecursion (λ (r : Range). Apart r base shape.need) (placements units)
    all = recursion_from_All (λ (r : Range). Apart r base shape.need) (placements units) f.apart

    beside : (q : Placement) → find (is_of q.unit) p ≡ Some q → IsBeside base shape.need q
    beside q e = split (slice_get units q.unit.0) refl
      where
        split : (o : Option UnitRow) → slice_get units q.unit.0 ≡ o → IsBeside base shape.need q
        split None t = absurd (none-some q (sym (s.others q.unit.0 (missing_past units q.unit.0 t)) ∙ e))
        split (Some x) t =
            let at = in_session q.unit.0 x q (sym ((s.each q.unit.0 x t).range) ∙ e) in
            turned (q.base + q.shape.need) base (base + shape.need) q.base (chosen_each (λ (r : Range). Apart r base shape.need) placement units all q.unit.0 x (record { base = q.base; need = q.shape.need }) t at)
