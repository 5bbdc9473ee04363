-- Placing a unit, giving its range its bytes, and taking it away.
use Rattle.std.proofs.Common.{◌≡◌, ℕ, Bool, true, false, cond, map, List, [], ◌∷◌, length, slice_get, ◌⊎◌, inl, inr, subst, sym, refl, ap, ◌∙◌, Option, Some, None, option_map, option_and_then, is_some, unwrap_or}
use Rattle.std.specs.Bool.{if◌then◌else◌}
use Rattle.std.specs.Prelude.{find, IsSome, IsSomeAnd}
use Rattle.std.specs.Option.{option_map_or}
use Rattle.std.proofs.lemmas.Bool.{both_ways, ne_eqb, eqb-true}
use Rattle.list_laws.proofs.Options.{not_there}
use Rattle.orc_ids.specs.declared.ids.UnitId.{UnitId}
use Rattle.orc_ids.specs.declared.place.Shape.{Shape}
use Rattle.session_model.specs.Lists.{changed_at}
use Rattle.session_model.specs.Meaning.{IsLawful}
use Rattle.session_model.specs.Plain.{UnitRow, unit_shape, is_alias}
use Rattle.session_model.specs.Change.{placed_unit, done_unit}
use Rattle.session_model.specs.Memory.{is_done, unit_image}
use Rattle.session_model.specs.declared.rows.UnitPhase.TheVariants as stage
use Rattle.code_memory.specs.Places.{placement_of, is_of, filled, with_bytes, with_range, without}
use Rattle.code_memory.specs.declared.placement.Placement.{Placement}
use Rattle.code_memory.proofs.Placed.{range_other, range_own, without_other, without_own}
use Rattle.session_parts.specs.Stored.{stored, range_at, is_placed, IsStored, AreStored}
use Rattle.session_parts.proofs.Storing.{unbased, changed_to, changed_one}

-- Placing

pub stored_placed : (units : List UnitRow) (p : List Placement) (u : UnitId) (shape : Shape) (base : ℕ) (x : UnitRow) → AreStored units p → slice_get units u.0 ≡ Some x → x.base ≡ None → unit_shape x ≡ Some shape → AreStored (changed_at u.0 (placed_unit base) units) (with_range p u shape base)
stored_placed units p u shape base x s t none its = changed_to units p (with_range p u shape base) u.0 (placed_unit base) x s t new (λ v n. range_other p u shape base (record { 0 = v }) (ne_eqb u.0 v (λ i. n (sym i))))
  where
    new : IsStored (with_range p u shape base) u.0 (placed_unit base x)
    new = record {
      range = range_own p u shape base ((s.each u.0 x t).range ∙ unbased u.0 x none) ∙ ap (λ o. option_map (range_at u.0 (placed_unit base x) base) o) (sym its);
      based = λ a h. ap is_some its;
      placed = λ h a. ap is_some (sym its);
    }

-- Bytes

abbrev full : List ℕ → Placement → Placement
full bytes q = record q { bytes = Some bytes }

find_filled : (u : UnitId) (bytes : List ℕ) (ps : List Placement) → find (is_of u) (map (filled u bytes) ps) ≡ option_map (full bytes) (find (is_of u) ps)
find_filled u bytes [] = refl
find_filled u bytes (q ∷ qs) = split (is_of u q) refl (find_filled u bytes qs)
  where
    split : (b : Bool) → is_of u q ≡ b → find (is_of u) (map (filled u bytes) qs) ≡ option_map (full bytes) (find (is_of u) qs) → cond (is_of u (cond b (full bytes q) q)) (Some (cond b (full bytes q) q)) (find (is_of u) (map (filled u bytes) qs)) ≡ option_map (full bytes) (cond b (Some q) (find (is_of u) qs))
    split true t rest = ap (λ b. cond b (Some (full bytes q)) (find (is_of u) (map (filled u bytes) qs))) t
    split false f rest = ap (λ b. cond b (Some q) (find (is_of u) (map (filled u bytes) qs))) f ∙ rest

find_others : (u v : UnitId) (bytes : List ℕ) (ps : List Placement) → (v.0 ≡ u.0 → ⊥) → find (is_of v) (map (filled u bytes) ps) ≡ find (is_of v) ps
find_others u v bytes [] n = refl
find_others u v bytes (q ∷ qs) n = split (is_of u q) refl (find_others u v bytes qs n)
  where
    split : (b : Bool) → is_of u q ≡ b → find (is_of v) (map (filled u bytes) qs) ≡ find (is_of v) qs → cond (is_of v (cond b (full bytes q) q)) (Some (cond b (full bytes q) q)) (find (is_of v) (map (filled u bytes) qs)) ≡ cond (is_of v q) (Some q) (find (is_of v) qs)
    split true t rest = let other : is_of v q ≡ false = ne_eqb q.unit.0 v.0 (λ e. n (sym e ∙ eqb-true q.unit.0 u.0 t)) in
        ap (λ b. cond b (Some (full bytes q)) (find (is_of v) (map (filled u bytes) qs))) other ∙ (rest ∙ ap (λ b. cond b (Some q) (find (is_of v) qs)) (sym other))
    split false f rest = ap (λ o. cond (is_of v q) (Some q) o) rest

-- the unit is done, and its range has its bytes
pub stored_done : (units : List UnitRow) (p : List Placement) (u : UnitId) (x : UnitRow) → AreStored units p → slice_get units u.0 ≡ Some x → x.phase ≡ stage.Finishing → AreStored (changed_at u.0 done_unit units) (with_bytes p u (unit_image x))
stored_done units p u x s t e = changed_to units p (with_bytes p u (unit_image x)) u.0 done_unit x s t new (λ v n. find_others u (record { 0 = v }) (unit_image x) p n)
  where
    before : IsStored p u.0 x
    before = s.each u.0 x t

    range : (o : Option ℕ) (shape : Option Shape) → option_map (full (unit_image x)) (option_and_then (λ base. option_map (λ (shape : Shape). record { unit = u; base = base; shape = shape; bytes = if is_done x.phase then Some (unit_image x) else None }) shape) o)
        ≡ option_and_then (λ base. option_map (λ (shape : Shape). record { unit = u; base = base; shape = shape; bytes = Some (unit_image x) }) shape) o
    range None shape = refl
    range (Some base) None = refl
    range (Some base) (Some shape) = refl

    new : IsStored (with_bytes p u (unit_image x)) u.0 (done_unit x)
    new = record {
      range = find_filled u (unit_image x) p ∙ (ap (option_map (full (unit_image x))) before.range ∙ range x.base (unit_shape x));
      based = before.based;
      placed = λ h a. before.placed (ap is_placed e) a;
    }

-- Units without a range

both_none : (u : ℕ) (x : UnitRow) (b : Option ℕ) → option_and_then (λ base. option_map (range_at u x base) None) b ≡ None
both_none u x None = refl
both_none u x (Some base) = refl

no_shape : (u : ℕ) (x : UnitRow) → is_alias x ≡ true → stored u x ≡ None
no_shape u x a = ap (λ o. option_and_then (λ base. option_map (range_at u x base) o) x.base) (ap (λ b. if b then None else x.meaning.shape x.live) a) ∙ both_none u x x.base

-- it has no base, or is an alias
abbrev pub HasNoRange : UnitRow → Type 0
HasNoRange x = (x.base ≡ None) ⊎ (is_alias x ≡ true)

pub no_range : (u : ℕ) (x : UnitRow) → HasNoRange x → stored u x ≡ None
no_range u x (inl e) = unbased u x e
no_range u x (inr a) = no_shape u x a

-- one without a range leaves code memory as it was
pub stored_done_bare : (units : List UnitRow) (p : List Placement) (u : ℕ) (x : UnitRow) → AreStored units p → slice_get units u ≡ Some x → x.phase ≡ stage.Finishing → HasNoRange x → AreStored (changed_at u done_unit units) p
stored_done_bare units p u x s t e bare = changed_one units p u done_unit x s t (record {
  range = before.range ∙ (no_range u x bare ∙ sym (no_range u (done_unit x) (still bare)));
  based = before.based;
  placed = λ h a. before.placed (ap is_placed e) a;
})
  where
    before : IsStored p u x
    before = s.each u x t

    still : HasNoRange x → HasNoRange (done_unit x)
    still (inl e) = inl e
    still (inr a) = inr a

-- Taking a range away

pub stored_freed : (units : List UnitRow) (p : List Placement) (u : UnitId) (f : UnitRow → UnitRow) (x : UnitRow) → AreStored units p → slice_get units u.0 ≡ Some x → (f x).base ≡ None → is_placed (f x).phase ≡ false → AreStored (changed_at u.0 f units) (without p u)
stored_freed units p u f x s t none gone = changed_to units p (without p u) u.0 f x s t (record {
  range = without_own p u ∙ sym (unbased u.0 (f x) none);
  based = λ a h. absurd (not_there (f x).base none h);
  placed = λ h a. absurd (both_ways (is_placed (f x).phase) gone h);
}) (λ v n. without_other p u (record { 0 = v }) (ne_eqb u.0 v (λ i. n (sym i))))

pub stored_unplaced : (units : List UnitRow) (p : List Placement) (u : ℕ) (f : UnitRow → UnitRow) (x : UnitRow) → AreStored units p → slice_get units u ≡ Some x → HasNoRange x → (f x).base ≡ None → is_placed (f x).phase ≡ false → AreStored (changed_at u f units) p
stored_unplaced units p u f x s t bare none gone = changed_one units p u f x s t (record {
  range = (s.each u x t).range ∙ (no_range u x bare ∙ sym (unbased u (f x) none));
  based = λ a h. absurd (not_there (f x).base none h);
  placed = λ h a. absurd (both_ways (is_placed (f x).phase) gone h);
})

-- Units with one

some_stored : (u : ℕ) (x : UnitRow) (base : Option ℕ) (shape : Option Shape) → is_some base ≡ true → is_some shape ≡ true → IsSome (option_and_then (λ base. option_map (range_at u x base) shape) base)
some_stored u x None shape b h = absurd (both_ways false refl b)
some_stored u x (Some base) None b h = absurd (both_ways false refl h)
some_stored u x (Some base) (Some shape) b h = search

-- a unit with a base that is no alias has a range
pub has_range : (p : List Placement) (u : UnitId) (x : UnitRow) → IsStored p u.0 x → is_alias x ≡ false → is_some x.base ≡ true → IsSome (placement_of p u)
has_range p u x s a b = subst IsSome (sym s.range) (some_stored u.0 x x.base (unit_shape x) b (s.based a b))

fits_and : (u : ℕ) (x : UnitRow) (n : ℕ) (base : Option ℕ) (shape : Option Shape) → is_some base ≡ true → is_some shape ≡ true → option_map_or (λ (s : Shape). s.need) shape 0 ≡ n →
    IsSomeAnd (option_and_then (λ base. option_map (range_at u x base) shape) base) (λ (q : Placement). n ≡ q.shape.need)
fits_and u x n None shape b h e = absurd (both_ways false refl b)
fits_and u x n (Some base) None b h e = absurd (both_ways false refl h)
fits_and u x n (Some base) (Some shape) b h e = sym e

-- which the unit's image fills
pub image_fits : (p : List Placement) (u : UnitId) (x : UnitRow) → IsStored p u.0 x → is_alias x ≡ false → is_some x.base ≡ true → IsLawful x.meaning → IsSomeAnd (placement_of p u) (λ q. length (unit_image x) ≡ q.shape.need)
image_fits p u x s a b lawful = subst (λ o. IsSomeAnd o (λ (q : Placement). length (unit_image x) ≡ q.shape.need)) (sym s.range)
    (fits_and u.0 x (length (unit_image x)) x.base (unit_shape x) b (s.based a b)
    (ap (λ o. option_map_or (λ (s : Shape). s.need) o 0) (ap (λ b. if b then None else x.meaning.shape x.live) a) ∙ sym (lawful.image x.live (unwrap_or x.base 0) (unwrap_or x.bound []))))
