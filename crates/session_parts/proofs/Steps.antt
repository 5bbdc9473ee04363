-- The ties of each change, for the parts.
use Rattle.std.proofs.Common.{◌≡◌, ℕ, ◌<◌, inl, inr, Bool, true, false, List, length, slice_get, Option, Some, None, refl, ap, sym, subst, ◌∙◌}
use Rattle.session_model.specs.Lists.{changed_at}
use Rattle.session_model.specs.Meaning.{Meaning}
use Rattle.session_model.specs.Plain.{Plain, UnitRow}
use Rattle.mat_unit.specs.Roster.{Roster}
use Rattle.mat_unit.specs.declared.unit.Unit.{Unit as OneUnit}
use Rattle.session_parts.specs.declared.parts.Parts.{Parts}
use Rattle.session_parts.specs.Parts.{kept_of, AreParts}
use Rattle.std.specs.Bool.{if◌then◌else◌}
use Rattle.std.specs.Prelude.{◌&&◌, not, is_some, IsSome, IsSomeAnd, option_and_then, OnOk, Result, Ok, Err}
use Rattle.std.specs.Option.{option_map_or}
use Rattle.std.proofs.lemmas.Bool.{both_ways, and_parts}
use Rattle.std.proofs.lemmas.Option.{none-some, same_Some}
use Rattle.orc_ids.specs.declared.groups.Group.{Group}
use Rattle.orc_ids.specs.declared.ids.InstId.{InstId}
use Rattle.orc_ids.specs.declared.ids.UnitId.{UnitId}
use Rattle.session_model.specs.Lists.{numbered}
use Rattle.session_model.specs.Meaning.{IsLawful}
use Rattle.session_model.specs.Plain.{is_alias, is_owned_at, is_unsearched, present_at}
use Rattle.session_model.specs.Change.{claimed, claimed_for, emitted, emitted_row, failed, hits_failed}
use Rattle.session_model.specs.Memory.{unit_image}
use Rattle.session_model.specs.declared.rows.InstRow.{InstRow}
use Rattle.session_model.specs.declared.rows.UnitPhase.TheVariants as stage
use Rattle.session_laws.specs.Sound.{IsSound, row_stage}
use Rattle.session_laws.proofs.Declared.{element_below, unsearched_unclaimed, unclaimed_row}
use Rattle.code_memory.specs.Places.{placement_of, with_bytes, without}
use Rattle.code_memory.specs.declared.placement.Placement.{Placement}
use Rattle.instances.specs.Graph.{Graph}
use Rattle.mat_unit.specs.Changes as one
use Rattle.mat_unit.specs.Rows.{unit_row}
use Rattle.session_parts.specs.Parts.{is_ranged}
use Rattle.session_parts.specs.Tied.{Kept, IsTied}
use Rattle.session_parts.specs.Units.{tracker_at}
use Rattle.session_parts.proofs.Memories.{HasNoRange, has_range, image_fits}
use Rattle.session_parts.proofs.Storing.{unbased}
use Rattle.session_parts.proofs.Ties.{kept_unit, session_unit, emit_tied, emit_bare_tied, fail_tied, fail_bare_tied}

-- the units alone are changed, and there are as many
pub with_units : {U N : Type 0} (means : U → Meaning) (p : Parts U N) (new made : Roster U) (m n : Plain) → AreParts means p m → new ≡ made → length n.units ≡ length m.units → IsTied means (record (kept_of p) { units = made.units; jobs = made.jobs }) n → AreParts means (record p { units = new }) n
with_units means p new made m n a e l t = record {
  kept = subst (λ r. IsTied means (record (kept_of p) { units = r.units; jobs = r.jobs }) n) (sym e) t;
  spans = a.spans ∙ sym l;
}

-- and the memory
pub with_memory : {U N : Type 0} (means : U → Meaning) (p : Parts U N) (new made : Roster U) (memory : List Placement) (space : List Placement) (m n : Plain) → AreParts means p m → new ≡ made → space ≡ memory → length n.units ≡ length m.units → IsTied means (record (kept_of p) { units = made.units; jobs = made.jobs; memory = memory }) n → AreParts means (record p { units = new; space = space }) n
with_memory means p new made memory space m n a e f l t = record {
  kept = subst (λ s. IsTied means (record (kept_of p) { units = new.units; jobs = new.jobs; memory = s }) n) (sym f) (subst (λ r. IsTied means (record (kept_of p) { units = r.units; jobs = r.jobs; memory = memory }) n) (sym e) t);
  spans = a.spans ∙ sym l;
}

-- and the instances
pub with_graph : {U N : Type 0} (means : U → Meaning) (p q : Parts U N) (graph : Graph) (new made : Roster U) (m n : Plain) → AreParts means p m → q ≡ record p { graph = graph; space = q.space } → graph.units ≡ p.graph.units → new ≡ made → length n.units ≡ length m.units →
    IsTied means (record (kept_of p) { rows = graph.rows; units = made.units; jobs = made.jobs; memory = q.space }) n → AreParts means (record q { units = new }) n
with_graph means p q graph new made m n a e f g l t = subst (λ d. AreParts means (record d { units = new }) n) (sym e) (record {
  kept = subst (λ r. IsTied means (record (kept_of p) { rows = graph.rows; units = r.units; jobs = r.jobs; memory = q.space }) n) (sym g) t;
  spans = f ∙ (a.spans ∙ sym l);
})

-- a unit of the session is one of the parts'
pub unit_below : {U N : Type 0} (means : U → Meaning) (p : Parts U N) (m : Plain) (u : ℕ) (x : UnitRow) → AreParts means p m → slice_get m.units u ≡ Some x → u < length p.units.units
unit_below means p m u x a e = let y = kept_unit means (kept_of p) m u x a.kept e in element_below p.units.units u y.0 y.1

-- one without a base has no range yet
pub unplaced : {U N : Type 0} (means : U → Meaning) (p : Parts U N) (m : Plain) (u : UnitId) (x : UnitRow) → AreParts means p m → slice_get m.units u.0 ≡ Some x → x.base ≡ None → placement_of p.space u ≡ None
unplaced means p m u x a e none = (a.kept.memory.each u.0 x e).range ∙ unbased u.0 x none

-- whether a unit has a range
ranged_parts : {U : Type 0} (means : U → Meaning) (t : ℕ) (y : OneUnit U) → is_ranged means y ≡ true → (is_some (unit_row means t y).base ≡ true) × (is_alias (unit_row means t y) ≡ false)
ranged_parts means t y e = let q = and_parts (is_some y.base) (not (is_some (means y.unit).source)) e in (q.0, negated (is_some (means y.unit).source) q.1)
  where
    negated : (b : Bool) → not b ≡ true → b ≡ false
    negated true h = absurd (both_ways false refl h)
    negated false h = refl

pub bare_parts : {U : Type 0} (means : U → Meaning) (t : ℕ) (y : OneUnit U) → is_ranged means y ≡ false → HasNoRange (unit_row means t y)
bare_parts means t y e = split y.base (is_some (means y.unit).source) refl refl e
  where
    split : (o : Option ℕ) (b : Bool) → y.base ≡ o → is_some (means y.unit).source ≡ b → (is_some o && not b) ≡ false → HasNoRange (unit_row means t y)
    split None b p q h = inl p
    split (Some base) true p q h = inr q
    split (Some base) false p q h = absurd (both_ways true h refl)

pub ranged_has_range : {U N : Type 0} (means : U → Meaning) (p : Parts U N) (m : Plain) (u : UnitId) (y : OneUnit U) → AreParts means p m → slice_get p.units.units u.0 ≡ Some y → is_ranged means y ≡ true → IsSome (placement_of p.space u)
ranged_has_range means p m u y a e r = let x = session_unit means (kept_of p) m u.0 y a.kept e in
    let q = ranged_parts means (tracker_at m.units u.0) y r in
    has_range p.space u (unit_row means (tracker_at m.units u.0) y) (a.kept.memory.each u.0 (unit_row means (tracker_at m.units u.0) y) x) q.1 q.0

pub ranged_image_fits : {U N : Type 0} (means : U → Meaning) (p : Parts U N) (m : Plain) (u : UnitId) (y : OneUnit U) (x : UnitRow) (bytes : List ℕ) → AreParts means p m → slice_get p.units.units u.0 ≡ Some y → slice_get m.units u.0 ≡ Some x → IsLawful x.meaning → bytes ≡ unit_image x → is_ranged means y ≡ true → IsSomeAnd (placement_of p.space u) (λ q. length bytes ≡ q.shape.need)
ranged_image_fits means p m u y x bytes a e f lawful same r = let is = same_Some x (unit_row means (tracker_at m.units u.0) y) (sym f ∙ session_unit means (kept_of p) m u.0 y a.kept e) in
    let q = ranged_parts means (tracker_at m.units u.0) y r in
    subst (λ bs. IsSomeAnd (placement_of p.space u) (λ (q : Placement). length bs ≡ q.shape.need)) (sym same)
    (image_fits p.space u x (a.kept.memory.each u.0 x f) (ap is_alias is ∙ q.1) (ap (λ (z : UnitRow). is_some z.base) is ∙ q.0) lawful)

-- an emission, whether or not the unit has a range
pub emitted_either : {U : Type 0} (means : U → Meaning) (k : Kept U) (m : Plain) (u : UnitId) (groups : List Group) (x : UnitRow) (y : OneUnit U) (space : List Placement) → IsTied means k m → slice_get m.units u.0 ≡ Some x → slice_get k.units u.0 ≡ Some y → x.phase ≡ stage.Finishing →
    space ≡ (if is_ranged means y then with_bytes k.memory u (unit_image x) else k.memory) →
    IsTied means (record k { rows = numbered (emitted_row u.0 groups) 0 k.rows; units = changed_at u.0 one.done k.units; memory = space }) (emitted u.0 groups m)
emitted_either {U} means k m u groups x y space t e f p s = split (is_ranged means y) refl s
  where
    bare : is_ranged means y ≡ false → HasNoRange x
    bare r = subst HasNoRange (sym (same_Some x (unit_row means (tracker_at m.units u.0) y) (sym e ∙ session_unit means k m u.0 y t f))) (bare_parts means (tracker_at m.units u.0) y r)

    split : (b : Bool) → is_ranged means y ≡ b → space ≡ (if b then with_bytes k.memory u (unit_image x) else k.memory) → IsTied means (record k { rows = numbered (emitted_row u.0 groups) 0 k.rows; units = changed_at u.0 one.done k.units; memory = space }) (emitted u.0 groups m)
    split true r q = subst (λ l. IsTied means (record k { rows = numbered (emitted_row u.0 groups) 0 k.rows; units = changed_at u.0 one.done k.units; memory = l }) (emitted u.0 groups m)) (sym q) (emit_tied means k m u groups x t e p)
    split false r q = subst (λ l. IsTied means (record k { rows = numbered (emitted_row u.0 groups) 0 k.rows; units = changed_at u.0 one.done k.units; memory = l }) (emitted u.0 groups m)) (sym q) (emit_bare_tied means k m u.0 groups x t e p (bare r))

-- a failure, likewise
pub failed_either : {U : Type 0} (means : U → Meaning) (k : Kept U) (m : Plain) (u : UnitId) (x : UnitRow) (y : OneUnit U) (space : List Placement) → IsTied means k m → slice_get m.units u.0 ≡ Some x → slice_get k.units u.0 ≡ Some y →
    space ≡ (if is_ranged means y then without k.memory u else k.memory) →
    IsTied means (record k { rows = hits_failed (is_owned_at u.0 k.rows) k.rows; units = changed_at u.0 one.failed k.units; memory = space }) (failed u.0 m)
failed_either {U} means k m u x y space t e f s = split (is_ranged means y) refl s
  where
    bare : is_ranged means y ≡ false → HasNoRange x
    bare r = subst HasNoRange (sym (same_Some x (unit_row means (tracker_at m.units u.0) y) (sym e ∙ session_unit means k m u.0 y t f))) (bare_parts means (tracker_at m.units u.0) y r)

    split : (b : Bool) → is_ranged means y ≡ b → space ≡ (if b then without k.memory u else k.memory) → IsTied means (record k { rows = hits_failed (is_owned_at u.0 k.rows) k.rows; units = changed_at u.0 one.failed k.units; memory = space }) (failed u.0 m)
    split true r q = subst (λ l. IsTied means (record k { rows = hits_failed (is_owned_at u.0 k.rows) k.rows; units = changed_at u.0 one.failed k.units; memory = l }) (failed u.0 m)) (sym q) (fail_tied means k m u x t e)
    split false r q = subst (λ l. IsTied means (record k { rows = hits_failed (is_owned_at u.0 k.rows) k.rows; units = changed_at u.0 one.failed k.units; memory = l }) (failed u.0 m)) (sym q) (fail_bare_tied means k m u.0 x t e (bare r))

-- Calls that may be refused

pub ok_map : {A B P Q : Type 0} (r : Result A B) → (P → Q) → OnOk r P → OnOk r Q
ok_map (Ok a) f p = f p
ok_map (Err e) f p = p

pub ok_map₂ : {A B P Q R : Type 0} (r : Result A B) → (P → Q → R) → OnOk r P → OnOk r Q → OnOk r R
ok_map₂ (Ok a) f p q = f p q
ok_map₂ (Err e) f p q = p

-- Claims

-- the graph and the units are changed
pub with_claim : {U N : Type 0} (means : U → Meaning) (p : Parts U N) (graph : Graph) (new made : Roster U) (rows : List InstRow) (m n : Plain) → AreParts means p m → graph ≡ record (p.graph) { rows = rows } → new ≡ made → length n.units ≡ length m.units →
    IsTied means (record (kept_of p) { rows = rows; units = made.units; jobs = made.jobs }) n → AreParts means (record p { graph = graph; units = new }) n
with_claim means p graph new made rows m n a f e l t = record {
  kept = subst (λ (g : Graph). IsTied means (record (kept_of p) { rows = g.rows; units = new.units; jobs = new.jobs }) n) (sym f) (subst (λ r. IsTied means (record (kept_of p) { rows = rows; units = r.units; jobs = r.jobs }) n) (sym e) t);
  spans = ap (λ (g : Graph). g.units) f ∙ (a.spans ∙ sym l);
}

-- the unit of an instance that no lookup has asked for
pub record IsClaimed (m : Plain) (i : InstId) (u : UnitId) : Type 0 where
  pub unit : UnitRow
  pub there : slice_get m.units u.0 ≡ Some unit
  pub unclaimed : unit.phase ≡ stage.Unclaimed
  pub same : claimed_for i m ≡ claimed u.0 m

pub claim_of : (m : Plain) (rows : List InstRow) (i : InstId) (u : UnitId) → rows ≡ m.rows → option_and_then (λ (r : InstRow). if is_unsearched r.phase then Some r.unit else None) (slice_get rows i.0) ≡ Some u → IsSound m → present_at m.rows i.0 ≡ true → IsClaimed m i u
claim_of m rows i u same e sound here = split (slice_get m.rows i.0) refl (ap (λ l. option_and_then (λ (r : InstRow). if is_unsearched r.phase then Some r.unit else None) (slice_get l i.0)) (sym same) ∙ e) here
  where
    found : (r : InstRow) → slice_get m.rows i.0 ≡ Some r → r.present ≡ true → (b : Bool) → is_unsearched r.phase ≡ b → (if b then Some r.unit else None) ≡ Some u → IsClaimed m i u
    found r t p true n q = let its : r.unit ≡ u = same_Some r.unit u q in
        let fit = (sound.rows_fit i.0 r t).here p in record {
          unit = fit.0;
          there = ap (λ v. slice_get m.units v.0) (sym its) ∙ fit.1;
          unclaimed = unclaimed_row fit.0 (unsearched_unclaimed (row_stage fit.0) r.phase fit.2 n);
          same = ap (λ o. option_map_or (λ (z : InstRow). if is_unsearched z.phase then claimed z.unit.0 m else m) o m) t ∙ (ap (λ b. if b then claimed r.unit.0 m else m) n ∙ ap (λ v. claimed v.0 m) its);
        }
    found r t p false n q = absurd (none-some u q)

    split : (o : Option InstRow) → slice_get m.rows i.0 ≡ o → option_and_then (λ (r : InstRow). if is_unsearched r.phase then Some r.unit else None) o ≡ Some u → option_map_or (λ (r : InstRow). r.present) (slice_get m.rows i.0) false ≡ true → IsClaimed m i u
    split None t q h = absurd (none-some u q)
    split (Some r) t q h = found r t (sym (ap (λ o. option_map_or (λ (z : InstRow). z.present) o false) t) ∙ h) (is_unsearched r.phase) refl q
