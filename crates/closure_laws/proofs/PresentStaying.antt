-- A present instance that was searched stays present, until its unit is removed.
use Rattle.std.proofs.Common.{◌≡◌, ℕ, true, false, List, ◌++◌, slice_get, ◌⊎◌, inl, inr, subst, sym, refl, ap, ◌∙◌, Some}
use Rattle.std.specs.Bool.{if◌then◌else◌}
use Rattle.std.proofs.lemmas.Bool.{both_ways, true_from_ne_false}
use Rattle.session_model.proofs.Phases.{defunct_stage}
use Rattle.orc_ids.specs.declared.ids.TrackId.{TrackId}
use Rattle.orc_ids.specs.declared.ids.UnitId.{UnitId}
use Rattle.session_model.specs.Change.{changed, settled, removed_unit, is_unit_of}
use Rattle.session_model.specs.Meaning.{Meaning}
use Rattle.session_model.specs.Plain.{Plain, UnitRow, is_unsearched, is_defunct}
use Rattle.session_model.specs.State.{state}
use Rattle.session_model.specs.declared.change.Change.{Change}
use Rattle.session_model.specs.declared.change.Change.TheVariants.{Remove}
use Rattle.session_model.specs.declared.rows.InstRow.{InstRow}
use Rattle.session_model.specs.declared.rows.UnitPhase.TheVariants as stage
use Rattle.session_laws.proofs.Declared.{same_element, mapped_some, test_from, unit_of_is, Guard, change_rises, row_is, settled_rows}
use Rattle.session_laws.specs.Sound.{IsSound, fits}
use Rattle.closure_laws.proofs.Histories.{kept_by_changes}
use Rattle.closure_laws.proofs.NamesOnce.{settled_there}
use Rattle.closure_laws.proofs.OwnRows.{alive_before, settled_alive}
use Rattle.closure_laws.proofs.RowMoving.{RowMoves, RowStays, RowYields, RowClaimed, RowResolved, RowEmitted, RowFails, RowGoes, RowRuns, RowHere, RowOn, AtUnclaimed, change_rows, run_same}
use Rattle.closure_laws.specs.Presence.{IsPresentOrRemoved, SearchedStayPresent}

-- what was searched stays so
move_searched : (m : Plain) (c : Change Meaning) (i : ℕ) (r q : InstRow) → RowMoves m c i r q → is_unsearched r.phase ≡ false → is_unsearched q.phase ≡ false
move_searched m c i r _ RowStays h = h
move_searched m c i r _ (RowYields d f) h = h
move_searched m c i r _ (RowClaimed e) h = refl
move_searched m c i r _ (RowResolved b e) h = refl
move_searched m c i r _ (RowEmitted u groups x is v t f own e) h = refl
move_searched m c i r _ RowFails h = refl
move_searched m c i r _ (RowGoes t is f) h = h

run_searched : (m : Plain) (c : Change Meaning) (i : ℕ) (r q : InstRow) → RowRuns m c i r q → is_unsearched r.phase ≡ false → is_unsearched q.phase ≡ false
run_searched m c i r _ RowHere h = h
run_searched m c i r _ (RowOn p q a b) h = move_searched m c i p q b (run_searched m c i r p a h)

-- the change removes the unit
abbrev IsRemoved : Plain → Change Meaning → ℕ → Type 0
IsRemoved m c u = (t : TrackId) × (c ≡ Remove t) × (is_unit_of m t.0 u ≡ true)

-- a searched instance is of no unit that wasn't asked for
asked : (m : Plain) (i : ℕ) (r : InstRow) → IsSound m → slice_get m.rows i ≡ Some r → r.present ≡ true → is_unsearched r.phase ≡ false → AtUnclaimed m r.unit.0 → ⊥
asked m i r s e present searched a =
    let x = (s.rows_fit i r e).here present in
    let is = same_element (slice_get m.units r.unit.0) a.0 x.0 a.1 x.1 in
    both_ways (is_unsearched r.phase) searched (subst (λ p. fits p r.phase ≡ true) (row_is x.0 stage.Unclaimed (ap (λ (z : UnitRow). z.phase) (sym is) ∙ a.2) refl) x.2)

run_present : (m : Plain) (c : Change Meaning) (i : ℕ) (r q : InstRow) → (AtUnclaimed m r.unit.0 → ⊥) → RowRuns m c i r q → r.present ≡ true → (q.present ≡ true) ⊎ IsRemoved m c r.unit.0
run_present m c i r _ busy RowHere h = inl h
run_present m c i r q busy (RowOn p _ a b) h = split (run_present m c i r p busy a h)
  where
    same : p.unit ≡ r.unit
    same = (run_same m c i r p a).unit

    step : (q : InstRow) → RowMoves m c i p q → p.present ≡ true → (q.present ≡ true) ⊎ IsRemoved m c r.unit.0
    step _ RowStays e = inl e
    step _ (RowYields d f) e = absurd (busy (subst (λ (u : UnitId). AtUnclaimed m u.0) same (f e)))
    step _ (RowClaimed f) e = inl e
    step _ (RowResolved address f) e = inl e
    step _ (RowEmitted u groups x is v t f own g) e = inl e
    step _ RowFails e = inl e
    step _ (RowGoes t is f) e = inr (t, is, subst (λ (u : UnitId). is_unit_of m t.0 u.0 ≡ true) same f)

    split : (p.present ≡ true) ⊎ IsRemoved m c r.unit.0 → (q.present ≡ true) ⊎ IsRemoved m c r.unit.0
    split (inl e) = step q b e
    split (inr g) = inr g

-- the unit is there, and was removed
abbrev IsOver : List UnitRow → ℕ → Type 0
IsOver units u = (x : UnitRow) × (slice_get units u ≡ Some x) × (is_defunct x.phase ≡ true)

removed_over : (m : Plain) (c : Change Meaning) (u : ℕ) (x : UnitRow) → slice_get m.units u ≡ Some x → IsRemoved m c u → IsOver (changed c m).units u
removed_over m c u x t (k, is, its) = (
  removed_unit k.0 x,
  ap (λ d. slice_get (changed d m).units u) is ∙ mapped_some (removed_unit k.0) m.units u x t,
  ap (λ b. is_defunct (if b then stage.Defunct else x.phase)) (sym (unit_of_is m k.0 u x t) ∙ its),
)

over_changed : (m : Plain) (s : ℕ) (c : Change Meaning) → IsSound m → Guard m s c → (u : ℕ) → IsOver m.units u → IsOver (changed c m).units u
over_changed m s c h g u p = let y = change_rises m s c h g u p.0 p.1 in
    (y.0, y.1, true_from_ne_false (is_defunct y.0.phase) (λ alive. both_ways (is_defunct p.0.phase) (alive_before m s c u p.0 y.0 h g p.1 y.1 alive) p.2))

over_settled : (m : Plain) (u : ℕ) → IsOver m.units u → IsOver (settled m).units u
over_settled m u p = let y = settled_there m u p.0 p.1 in (
  y.0,
  y.1,
  true_from_ne_false (is_defunct y.0.phase) (λ alive. let x = settled_alive m u y.0 y.1 alive in
      both_ways (is_defunct p.0.phase) (ap (λ (z : UnitRow). is_defunct z.phase) (same_element (slice_get m.units u) p.0 x.0 p.1 x.1) ∙ x.2) p.2),
)

-- an instance of the unit that was searched, and is present if its unit wasn't removed
record IsKept (rows : List InstRow) (units : List UnitRow) (i u : ℕ) : Type 0 where
  row : InstRow
  there : slice_get rows i ≡ Some row
  unit : row.unit.0 ≡ u
  searched : is_unsearched row.phase ≡ false
  how : (row.present ≡ true) ⊎ IsOver units u

kept_changed : (m : Plain) (s : ℕ) (c : Change Meaning) → IsSound m → Guard m s c → (i u : ℕ) → IsKept m.rows m.units i u → IsKept (changed c m).rows (changed c m).units i u
kept_changed m s c h g i u old = record {
  row = q.0;
  there = q.1;
  unit = ap (λ (v : UnitId). v.0) (run_same m c i old.row q.0 q.2).unit ∙ old.unit;
  searched = run_searched m c i old.row q.0 q.2 old.searched;
  how = split old.how;
}
  where
    q : (q : InstRow) × (slice_get (changed c m).rows i ≡ Some q) × RowRuns m c i old.row q
    q = change_rows m s c h g i old.row old.there

    by_run : old.row.present ≡ true → (q.0.present ≡ true) ⊎ IsRemoved m c old.row.unit.0 → (q.0.present ≡ true) ⊎ IsOver (changed c m).units u
    by_run e (inl p) = inl p
    by_run e (inr p) = let x = (h.rows_fit i old.row old.there).here e in inr (subst (IsOver (changed c m).units) old.unit (removed_over m c old.row.unit.0 x.0 x.1 p))

    split : (old.row.present ≡ true) ⊎ IsOver m.units u → (q.0.present ≡ true) ⊎ IsOver (changed c m).units u
    split (inl e) = by_run e (run_present m c i old.row q.0 (asked m i old.row h old.there e old.searched) q.2 e)
    split (inr o) = inr (over_changed m s c h g u o)

kept_settled : (m : Plain) (i u : ℕ) → IsKept m.rows m.units i u → IsKept (settled m).rows (settled m).units i u
kept_settled m i u old = record { row = old.row; there = ap (λ rs. slice_get rs i) (settled_rows m) ∙ old.there; unit = old.unit; searched = old.searched; how = split old.how }
  where
    split : (old.row.present ≡ true) ⊎ IsOver m.units u → (old.row.present ≡ true) ⊎ IsOver (settled m).units u
    split (inl e) = inl e
    split (inr o) = inr (over_settled m u o)

pub searched_stay_present : SearchedStayPresent
searched_stay_present jmax h more l i r e present searched = split kept.how
  where
    kept : IsKept (state (h ++ more)).rows (state (h ++ more)).units i r.unit.0
    kept = kept_by_changes (λ rows units queries. IsKept rows units i r.unit.0) (λ m s c sound g. kept_changed m s c sound g i r.unit.0) (λ m sound. kept_settled m i r.unit.0) jmax h more l
        (record { row = r; there = e; unit = refl; searched = searched; how = inl present })

    split : (kept.row.present ≡ true) ⊎ IsOver (state (h ++ more)).units r.unit.0 → IsPresentOrRemoved (state (h ++ more)) i r.unit.0
    split (inl p) = inl (test_from (λ (y : InstRow). y.present) (state (h ++ more)).rows i kept.row kept.there p)
    split (inr o) = inr (o.0, o.1, defunct_stage o.0.phase o.2)
