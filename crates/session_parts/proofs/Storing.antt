-- One unit is changed, and with it its range.
use Rattle.std.proofs.Common.{◌≡◌, ℕ, ◌≤◌, ◌⊎◌, inl, inr, true, false, List, length, slice_get, Option, Some, None, option_map, option_and_then, is_some, refl, ap, ap₂, sym, subst, ◌∙◌, arith}
use Rattle.std.specs.Bool.{if◌then◌else◌}
use Rattle.session_model.specs.Lists.{changed_at}
use Rattle.session_model.specs.Plain.{UnitRow, unit_shape, is_alias}
use Rattle.session_model.specs.Memory.{is_done, unit_image}
use Rattle.session_laws.proofs.Declared.{element_below, changed_cases, changed_length, same_element}
use Rattle.code_memory.specs.Places.{placement_of}
use Rattle.code_memory.specs.declared.placement.Placement.{Placement}
use Rattle.orc_ids.specs.declared.place.Shape.{Shape}
use Rattle.session_parts.specs.Stored.{stored, is_placed, IsStored, AreStored}

-- a range without bytes
abbrev bare : ℕ → Option ℕ → Option Shape → Option Placement
bare u base shape = option_and_then (λ base. option_map (λ shape. record { unit = record { 0 = u }; base = base; shape = shape; bytes = None }) shape) base

-- until a unit is done its range has none
pub undone : (u : ℕ) (x : UnitRow) → is_done x.phase ≡ false → stored u x ≡ bare u x.base (unit_shape x)
undone u x e = ap (λ d. option_and_then (λ base. option_map (λ (shape : Shape). record { unit = record { 0 = u }; base = base; shape = shape; bytes = if d then Some (unit_image x) else None }) (unit_shape x)) x.base) e

none_and_then : {X Y : Type 0} (f : X → Option Y) (o : Option X) → o ≡ None → option_and_then f o ≡ None
none_and_then f o e = ap (option_and_then f) e

-- a unit without a base has no range
pub unbased : (u : ℕ) (x : UnitRow) → x.base ≡ None → stored u x ≡ None
unbased u x e = none_and_then _ x.base e

-- a unit at another phase before it is done
pub rephased : (p : List Placement) (u : ℕ) (x y : UnitRow) → IsStored p u x → is_done x.phase ≡ false → is_done y.phase ≡ false → y.base ≡ x.base → unit_shape y ≡ unit_shape x → is_alias y ≡ is_alias x →
    (is_placed y.phase ≡ true → is_alias y ≡ false → is_some x.base ≡ is_some (unit_shape x)) → IsStored p u y
rephased p u x y s d e base shape alias placed = record {
  range = s.range ∙ (undone u x d ∙ (ap₂ (bare u) (sym base) (sym shape) ∙ sym (undone u y e)));
  based = λ a h. ap is_some shape ∙ s.based (sym alias ∙ a) (sym (ap is_some base) ∙ h);
  placed = λ h a. ap is_some base ∙ (placed h a ∙ ap is_some (sym shape));
}

-- one of them is changed, and with it its range
pub changed_to : (units : List UnitRow) (p q : List Placement) (k : ℕ) (f : UnitRow → UnitRow) (x : UnitRow) → AreStored units p → slice_get units k ≡ Some x → IsStored q k (f x) →
    ((v : ℕ) → (v ≡ k → ⊥) → placement_of q (record { 0 = v }) ≡ placement_of p (record { 0 = v })) → AreStored (changed_at k f units) q
changed_to units p q k f x s t new stay = record { each = each; others = λ u b. others u (subst (λ n. n ≤ u) (changed_length k f units) b) }
  where
    each : (u : ℕ) (y : UnitRow) → slice_get (changed_at k f units) u ≡ Some y → IsStored q u y
    each u y e = split (changed_cases k f units u y e)
      where
        split : ((u ≡ k) × ((z : UnitRow) × (slice_get units u ≡ Some z) × (y ≡ f z))) ⊎ ((u ≡ k → ⊥) × (slice_get units u ≡ Some y)) → IsStored q u y
        split (inl c) = let same = same_element (slice_get units k) x c.1.0 t (ap (slice_get units) (sym c.0) ∙ c.1.1) in
            subst (λ v. IsStored q v y) (sym c.0) (subst (IsStored q k) (ap f same ∙ sym c.1.2) new)
        split (inr c) = let old = s.each u y c.1 in record { range = stay u c.0 ∙ old.range; based = old.based; placed = old.placed }

    others : (u : ℕ) → length units ≤ u → placement_of q (record { 0 = u }) ≡ None
    others u b = stay u (λ e. absurd (omega (arith, e, b, element_below units k x t))) ∙ s.others u b

-- one of them is changed, with the same range
pub changed_one : (units : List UnitRow) (p : List Placement) (k : ℕ) (f : UnitRow → UnitRow) (x : UnitRow) → AreStored units p → slice_get units k ≡ Some x → IsStored p k (f x) → AreStored (changed_at k f units) p
changed_one units p k f x s t new = changed_to units p p k f x s t new (λ v n. refl)
