-- A unit whose instances got their addresses, for the parts.
use Rattle.std.proofs.Common.{◌≡◌, ℕ, ◌⊎◌, inl, inr, Bool, true, false, ◌&&◌, ◌||◌, length, map, slice_get, Option, Some, None, is_some, unwrap_or, refl, ap, sym, subst, ◌∙◌}
use Rattle.std.specs.Bool.{if◌then◌else◌}
use Rattle.std.specs.Option.{option_or}
use Rattle.std.specs.Prelude.{is_none}
use Rattle.std.proofs.lemmas.Bool.{both_ways, and_parts, or_cases}
use Rattle.std.proofs.lemmas.Option.{same_Some}
use Rattle.session_model.proofs.Phases.{started_stage}
use Rattle.orc_ids.specs.declared.ids.UnitId.{UnitId}
use Rattle.session_model.specs.Answer.{is_stage, can_resolve}
use Rattle.session_model.specs.Lists.{changed_at}
use Rattle.session_model.specs.Meaning.{Meaning}
use Rattle.session_model.specs.Plain.{Plain, UnitRow, is_alias, unit_shape}
use Rattle.session_model.specs.Change.{resolved, resolved_unit, target_address}
use Rattle.session_model.specs.declared.rows.UnitPhase.TheVariants as stage
use Rattle.session_laws.specs.Sound.{IsSound, is_early}
use Rattle.session_laws.proofs.Declared.{changed_length, placed_stage}
use Rattle.instances.specs.Graph.{Graph}
use Rattle.instances.specs.Rows.{addressed_row}
use Rattle.mat_unit.specs.Roster.{Roster}
use Rattle.mat_unit.specs.Rows.{unit_row}
use Rattle.mat_unit.specs.declared.unit.Unit.{Unit as OneUnit}
use Rattle.session_parts.specs.declared.parts.Parts.{Parts}
use Rattle.session_parts.specs.Addressed.{alias_target, gone_on}
use Rattle.session_parts.specs.Parts.{kept_of, AreParts}
use Rattle.session_parts.specs.Tied.{Kept, IsTied}
use Rattle.session_parts.specs.Units.{tracker_at}
use Rattle.session_parts.proofs.Ties.{session_unit}
use Rattle.session_parts.proofs.Whole.{unit_resolved, alias_resolved, resolved_there}

-- the unit is placed, or needs no place
abbrev pub IsPlaced : UnitRow → Type 0
IsPlaced x = (x.phase ≡ stage.Placed) ⊎ ((x.phase ≡ stage.Started) × (x.base ≡ None) × (unit_shape x ≡ None))

none_is : {X : Type 0} (o : Option X) → is_none o ≡ true → o ≡ None
none_is None e = refl
none_is (Some x) e = absurd (both_ways false refl e)

-- one that may be resolved is, unless it is an alias
pub placed_of : (x : UnitRow) → can_resolve x ≡ true → is_alias x ≡ false → (is_early x.phase ≡ true → x.base ≡ None) → IsPlaced x
placed_of x c own early = split (or_cases (is_stage stage.Placed x.phase) (is_stage stage.Started x.phase && is_none (unit_shape x))
    (ap (λ b. if b then is_stage stage.Finishing x.phase && is_some x.bound && is_none x.base else is_stage stage.Placed x.phase || is_stage stage.Started x.phase && is_none (unit_shape x)) (sym own) ∙ c))
  where
    split : (is_stage stage.Placed x.phase ≡ true) ⊎ (is_stage stage.Started x.phase && is_none (unit_shape x) ≡ true) → IsPlaced x
    split (inl e) = inl (placed_stage x.phase e)
    split (inr e) = let p = and_parts (is_stage stage.Started x.phase) (is_none (unit_shape x)) e in
        let q = started_stage x.phase p.0 in inr (q, early (ap is_early q), none_is (unit_shape x) p.1)

-- the ties of a unit with this target
abbrev IsResolvedTo : {U : Type 0} → (U → Meaning) → Kept U → Plain → UnitId → OneUnit U → Option ℕ → Type 0
IsResolvedTo means k m u y target = IsTied means (record k { rows = map (addressed_row u.0 (λ j. (means y.unit).address j (unwrap_or (option_or target y.base) 0))) k.rows; units = changed_at u.0 (gone_on target) k.units }) (resolved u.0 m)

either_resolved : {U : Type 0} (means : U → Meaning) (k : Kept U) (m : Plain) (u : UnitId) (y : OneUnit U) → IsTied means k m → IsSound m → slice_get m.units u.0 ≡ Some (unit_row means (tracker_at m.units u.0) y) → can_resolve (unit_row means (tracker_at m.units u.0) y) ≡ true → IsResolvedTo means k m u y (alias_target means y)
either_resolved means k m u y tied sound there can = split (is_some (means y.unit).source) refl
  where
    split : (alias : Bool) → is_some (means y.unit).source ≡ alias → IsResolvedTo means k m u y (alias_target means y)
    split true own = subst (λ b. IsResolvedTo means k m u y (if b then Some (target_address (unit_row means 0 y)) else None)) (sym own)
        (alias_resolved means k m u (unit_row means (tracker_at m.units u.0) y) tied there own)
    split false own = subst (λ b. IsResolvedTo means k m u y (if b then Some (target_address (unit_row means 0 y)) else None)) (sym own)
        (unit_resolved means k m u (unit_row means (tracker_at m.units u.0) y) tied there own
        (placed_of (unit_row means (tracker_at m.units u.0) y) can own (sound.units_fit u.0 (unit_row means (tracker_at m.units u.0) y) there).early))

pub resolved_parts : {U N : Type 0} (means : U → Meaning) (p : Parts U N) (m : Plain) (u : UnitId) (x : UnitRow) (y : OneUnit U) (target : Option ℕ) (base : ℕ) (graph : Graph) (new : Roster U) → AreParts means p m → IsSound m → slice_get m.units u.0 ≡ Some x → can_resolve x ≡ true → slice_get p.units.units u.0 ≡ Some y →
    target ≡ alias_target means y → base ≡ unwrap_or (option_or target y.base) 0 → graph.rows ≡ map (addressed_row u.0 (λ k. (means y.unit).address k base)) p.graph.rows → graph.units ≡ p.graph.units → new ≡ record (p.units) { units = changed_at u.0 (gone_on target) p.units.units } → AreParts means (record p { graph = graph; units = new }) (resolved u.0 m)
resolved_parts {U} {N} means p m u x y target base graph new a sound e can f t b rows many units = record {
  kept = subst (λ (r : Roster U). IsTied means (record (kept_of p) { rows = graph.rows; units = r.units; jobs = r.jobs }) (resolved u.0 m)) (sym units)
      (subst (λ rs. IsTied means (record (kept_of p) { rows = rs; units = changed_at u.0 (gone_on target) p.units.units }) (resolved u.0 m))
      (sym (rows ∙ ap (λ n. map (addressed_row u.0 (λ k. (means y.unit).address k n)) p.graph.rows) b))
      (subst (IsResolvedTo means (kept_of p) m u y) (sym t) (either_resolved means (kept_of p) m u y a.kept sound there may)));
  spans = many ∙ (a.spans ∙ sym (ap (λ (n : Plain). length n.units) (resolved_there u.0 m (unit_row means (tracker_at m.units u.0) y) there) ∙ changed_length u.0 resolved_unit m.units));
}
  where
    there : slice_get m.units u.0 ≡ Some (unit_row means (tracker_at m.units u.0) y)
    there = session_unit means (kept_of p) m u.0 y a.kept f

    may : can_resolve (unit_row means (tracker_at m.units u.0) y) ≡ true
    may = subst (λ (z : UnitRow). can_resolve z ≡ true) (same_Some x (unit_row means (tracker_at m.units u.0) y) (sym e ∙ session_unit means (kept_of p) m u.0 y a.kept f)) can
