-- Each change of a unit and its instances keeps the invariant.
use Rattle.std.proofs.Common.{◌≡◌, ℕ, true, false, not, List, [], slice_get, Contains, ◌⊎◌, inl, inr, subst, sym, refl, ap, ◌∙◌, Option, Some, None, option_map}
use Rattle.std.specs.Option.{option_map_or}
use Rattle.std.proofs.lemmas.Bool.{cases_eq}
use Rattle.orc_ids.specs.declared.ids.UnitId.{UnitId}
use Rattle.session_model.specs.Lists.{changed_at}
use Rattle.session_model.specs.Plain.{UnitRow, is_unsearched, phase_deps}
use Rattle.session_model.specs.Reach.{deps_at}
use Rattle.session_model.specs.declared.rows.InstRow.{InstRow}
use Rattle.session_model.specs.declared.rows.Job.{Job}
use Rattle.session_model.specs.declared.rows.Phase.{Phase}
use Rattle.session_model.specs.declared.rows.UnitPhase.{UnitPhase}
use Rattle.session_laws.proofs.Elements.{map_parts, changed_cases, changed_some, changed_elsewhere, same_element}
use Rattle.session_laws.proofs.Facts.{test_parts, test_from, deps_parts, deps_from, matched_more, due_some}
use Rattle.session_laws.specs.Sound.{row_stage, Sound, RowFits, UnitFits, is_sure, sure_at, searched_at, is_underway, fits, due_at, due, its_jobs}
use Rattle.session_model.specs.declared.rows.Query.{Query}

-- A change of unit u, which was x, and of instances that stay where they are.
pub record IsStep (rows : List InstRow) (units : List UnitRow) (queries : List Query) (jobs : List Job) (new : List InstRow) (g : ℕ → InstRow → InstRow) (listed : List Job) (u : ℕ) (x y : UnitRow) : Type 0 where
  pub there : slice_get units u ≡ Some x
  pub at : (i : ℕ) → slice_get new i ≡ option_map (g i) (slice_get rows i)
  pub same : (i : ℕ) (r : InstRow) → ((g i r).present ≡ r.present) × ((g i r).unit ≡ r.unit)
  pub mine : (i : ℕ) (r : InstRow) → slice_get rows i ≡ Some r → r.present ≡ true → r.unit.0 ≡ u → fits (row_stage x) r.phase ≡ true → fits (row_stage y) (g i r).phase ≡ true
  pub other : (i : ℕ) (r : InstRow) → slice_get rows i ≡ Some r → r.present ≡ true → (r.unit.0 ≡ u → ⊥) → (s : UnitPhase) → fits s r.phase ≡ true → fits s (g i r).phase ≡ true
  pub gone : (i : ℕ) (r : InstRow) → slice_get rows i ≡ Some r → r.present ≡ false → is_underway r.phase ≡ false → is_underway (g i r).phase ≡ false
  pub deps : (i j : ℕ) → Contains (deps_at new i) j → sure_at new j ≡ true
  pub searched : (i : ℕ) (r : InstRow) → slice_get rows i ≡ Some r → not (is_unsearched r.phase) ≡ true → not (is_unsearched (g i r).phase) ≡ true
  pub unit : UnitFits queries u y
  pub own : its_jobs u listed ≡ due_at u y.phase
  pub others : (v : ℕ) → (v ≡ u → ⊥) → its_jobs v listed ≡ its_jobs v jobs

pub stepped : (rows : List InstRow) (units : List UnitRow) (queries : List Query) (jobs : List Job) (new : List InstRow) (g : ℕ → InstRow → InstRow) (listed : List Job) (u : ℕ) (x : UnitRow) (f : UnitRow → UnitRow) →
    Sound rows units queries jobs → IsStep rows units queries jobs new g listed u x (f x) → Sound new (changed_at u f units) queries listed
stepped rows units queries jobs new g listed u x f s t = record { rows_fit = rows_fit; deps = t.deps; units_fit = units_fit; jobs_due = λ v. jobs_due v (cases_eq v u); searched = λ k q e. matched_more (λ i. searched_at rows i ≡ true) (λ i. searched_at new i ≡ true) searched q.matched (s.searched k q e) }
  where
    searched : (i : ℕ) → searched_at rows i ≡ true → searched_at new i ≡ true
    searched i h = let p = test_parts (λ r. not (is_unsearched r.phase)) rows i h in
        test_from (λ r. not (is_unsearched r.phase)) new i (g i p.0) (t.at i ∙ ap (option_map (g i)) p.1) (t.searched i p.0 p.1 p.2)

    row_at : (i : ℕ) (r : InstRow) → slice_get rows i ≡ Some r → RowFits (changed_at u f units) (g i r)
    row_at i r e = record { here = λ h. here (sym (t.same i r).0 ∙ h); gone = λ h. t.gone i r e (sym (t.same i r).0 ∙ h) ((s.rows_fit i r e).gone (sym (t.same i r).0 ∙ h)) }
      where
        at_unit : slice_get (changed_at u f units) (g i r).unit.0 ≡ slice_get (changed_at u f units) r.unit.0
        at_unit = ap (λ (v : UnitId). slice_get (changed_at u f units) v.0) (t.same i r).1

        here : r.present ≡ true → (y : UnitRow) × (slice_get (changed_at u f units) (g i r).unit.0 ≡ Some y) × (fits (row_stage y) (g i r).phase ≡ true)
        here h = split (cases_eq r.unit.0 u) ((s.rows_fit i r e).here h)
          where
            split : (r.unit.0 ≡ u) ⊎ (r.unit.0 ≡ u → ⊥) → (y : UnitRow) × (slice_get units r.unit.0 ≡ Some y) × (fits (row_stage y) r.phase ≡ true) → (y : UnitRow) × (slice_get (changed_at u f units) (g i r).unit.0 ≡ Some y) × (fits (row_stage y) (g i r).phase ≡ true)
            split (inl is) p = (
              f x,
              at_unit ∙ (ap (slice_get (changed_at u f units)) is ∙ changed_some u f units x t.there),
              t.mine i r e h is (subst (λ (y : UnitRow). fits (row_stage y) r.phase ≡ true) (same_element (slice_get units u) p.0 x (sym (ap (slice_get units) is) ∙ p.1) t.there) p.2),
            )
            split (inr apart) p = (p.0, at_unit ∙ (changed_elsewhere u f units r.unit.0 apart ∙ p.1), t.other i r e h apart (row_stage p.0) p.2)

    rows_fit : (i : ℕ) (r : InstRow) → slice_get new i ≡ Some r → RowFits (changed_at u f units) r
    rows_fit i r e = let p = map_parts (g i) (slice_get rows i) r (sym (t.at i) ∙ e) in
        subst (RowFits (changed_at u f units)) (sym p.2) (row_at i p.0 p.1)

    units_fit : (v : ℕ) (y : UnitRow) → slice_get (changed_at u f units) v ≡ Some y → UnitFits queries v y
    units_fit v y e = split (changed_cases u f units v y e)
      where
        split : ((v ≡ u) × ((z : UnitRow) × (slice_get units v ≡ Some z) × (y ≡ f z))) ⊎ ((v ≡ u → ⊥) × (slice_get units v ≡ Some y)) → UnitFits queries v y
        split (inl p) = subst (λ k. UnitFits queries k y) (sym p.0) (subst (UnitFits queries u) (sym (p.1.2 ∙ ap f (same_element (slice_get units u) p.1.0 x (sym (ap (slice_get units) p.0) ∙ p.1.1) t.there))) t.unit)
        split (inr p) = s.units_fit v y p.1

    jobs_due : (v : ℕ) → (v ≡ u) ⊎ (v ≡ u → ⊥) → its_jobs v listed ≡ due v (changed_at u f units)
    jobs_due v (inl is) = subst (λ k. its_jobs k listed ≡ due k (changed_at u f units)) (sym is) (t.own ∙ sym (due_some u (changed_at u f units) (f x) (changed_some u f units x t.there)))
    jobs_due v (inr apart) = t.others v apart ∙ (s.jobs_due v ∙ ap (λ o. option_map_or (λ (y : UnitRow). due_at v y.phase) o []) (sym (changed_elsewhere u f units v apart)))

-- dependencies stay sure where instances keep theirs and stay sure
pub deps_kept : (rows new : List InstRow) (g : ℕ → InstRow → InstRow) → ((i : ℕ) → slice_get new i ≡ option_map (g i) (slice_get rows i)) →
    ((i j : ℕ) → Contains (deps_at rows i) j → sure_at rows j ≡ true) →
    ((i j : ℕ) (r : InstRow) → slice_get rows i ≡ Some r → Contains (phase_deps (g i r).phase) j → Contains (phase_deps r.phase) j) →
    ((i : ℕ) (r : InstRow) → slice_get rows i ≡ Some r → is_sure r ≡ true → is_sure (g i r) ≡ true) →
    (i j : ℕ) → Contains (deps_at new i) j → sure_at new j ≡ true
deps_kept rows new g at old less sure i j c = found (deps_parts new i j c)
  where
    found : (r : InstRow) × (slice_get new i ≡ Some r) × Contains (phase_deps r.phase) j → sure_at new j ≡ true
    found p = let q = map_parts (g i) (slice_get rows i) p.0 (sym (at i) ∙ p.1) in
        let d = deps_from rows i j q.0 q.1 (less i j q.0 q.1 (subst (λ (r : InstRow). Contains (phase_deps r.phase) j) q.2 p.2)) in
        let r = test_parts is_sure rows j (old i j d) in
        test_from is_sure new j (g j r.0) (at j ∙ ap (option_map (g j)) r.1) (sure j r.0 r.1 r.2)

-- A change of unit u alone, and of its jobs.
pub record IsUnitStep (queries : List Query) (jobs : List Job) (listed : List Job) (u : ℕ) (x y : UnitRow) : Type 0 where
  pub mine : (p : Phase) → fits (row_stage x) p ≡ true → fits (row_stage y) p ≡ true
  pub unit : UnitFits queries u y
  pub own : its_jobs u listed ≡ due_at u y.phase
  pub others : (v : ℕ) → (v ≡ u → ⊥) → its_jobs v listed ≡ its_jobs v jobs

same_map : (rows : List InstRow) (i : ℕ) → slice_get rows i ≡ option_map (λ (r : InstRow). r) (slice_get rows i)
same_map rows i = go (slice_get rows i)
  where
    go : (o : Option InstRow) → o ≡ option_map (λ (r : InstRow). r) o
    go None = refl
    go (Some r) = refl

pub unit_stepped : (rows : List InstRow) (units : List UnitRow) (queries : List Query) (jobs listed : List Job) (u : ℕ) (x : UnitRow) (f : UnitRow → UnitRow) →
    Sound rows units queries jobs → slice_get units u ≡ Some x → IsUnitStep queries jobs listed u x (f x) → Sound rows (changed_at u f units) queries listed
unit_stepped rows units queries jobs listed u x f s there t = stepped rows units queries jobs rows (λ i r. r) listed u x f s (record {
  there = there;
  at = same_map rows;
  same = λ i r. (refl, refl);
  mine = λ i r e h is fit. t.mine r.phase fit;
  other = λ i r e h apart p fit. fit;
  gone = λ i r e h n. n;
  deps = s.deps;
  searched = λ i r e h. h;
  unit = t.unit;
  own = t.own;
  others = t.others;
})
