-- A unit that is done stays so, until it is removed.
use Rattle.std.proofs.Common.{◌≡◌, ℕ, true, false, List, [], ◌∷◌, ◌++◌, length, slice_get, ◌⊎◌, inl, inr, subst, sym, refl, ap, ◌∙◌, Some, is_some, arith}
use Rattle.std.proofs.lemmas.Bool.{both_ways}
use Rattle.session_model.specs.Change.{change_of, changed, new_unit}
use Rattle.session_model.specs.Meaning.{Meaning}
use Rattle.session_model.specs.Plain.{Plain, UnitRow, empty, is_defunct}
use Rattle.session_model.specs.State.{state, after}
use Rattle.session_model.specs.declared.change.Change.{Change}
use Rattle.session_model.specs.declared.entry.Entry.{Entry}
use Rattle.session_model.specs.declared.rows.UnitPhase.{UnitPhase}
use Rattle.session_model.specs.declared.rows.UnitPhase.TheVariants as stage
use Rattle.session_model.specs.declared.rows.Verdict.{Verdict}
use Rattle.session_laws.proofs.Declared.{state_from_push, none_there, none_past, same_element, Runs, Other, change_moves, settled_run, doing_of, Guard, after_rises, defunct_stays}
use Rattle.session_laws.specs.Sound.{is_held_phase}
use Rattle.closure_laws.proofs.Depending.{DoneOrOver, is_over, run_done}
use Rattle.closure_laws.proofs.Fields.{IsNew, HasFields, FailsBy, after_fields}
use Rattle.closure_laws.proofs.Histories.{OneMore, kept_along}
use Rattle.closure_laws.specs.Bound.{StaysDone, DoneStays}

-- the unit is done yet, or was removed
abbrev DoneOrGone : ℕ → UnitRow → List (Entry Meaning) → Type 0
DoneOrGone u x h = (y : UnitRow) × (slice_get (state h).units u ≡ Some y) × (StaysDone x y ⊎ (y.phase ≡ stage.Defunct))

over_cases : (p : UnitPhase) → is_over p ≡ true → (p ≡ stage.Failed) ⊎ (p ≡ stage.Defunct)
over_cases stage.Failed e = inl refl
over_cases stage.Defunct e = inr refl
over_cases _ e = absurd (both_ways false refl e)

still_done : (jmax : ℕ) (u : ℕ) (x : UnitRow) (h : List (Entry Meaning)) (e : Entry Meaning) → OneMore jmax h e → DoneOrGone u x h → DoneOrGone u x (h ++ e ∷ [])
still_done jmax u x h e one (y, t, inr gone) = let z = defunct_stays jmax h (e ∷ []) one.legal u y t gone in (z.0, z.1, inr z.2)
still_done jmax u x h e one (y, t, inl d) = (z.0, ap (λ (n : Plain). slice_get n.units u) (state_from_push empty h e) ∙ z.1, by_run (change_moves m e.seat.0 c one.sound one.guard u now.0 now.1))
  where
    m : Plain
    m = state h

    c : Change Meaning
    c = change_of m e.seat.0 e.event e.reply

    z : (z : UnitRow) × (slice_get (after m e).units u ≡ Some z)
    z = let r = after_rises jmax h m e one.sound one.answers u y t in (r.0, r.1)

    now : (n : UnitRow) × (slice_get (changed c m).units u ≡ Some n) × Runs Other (changed c m) u n z.0
    now = settled_run (changed c m) u z.0 z.1

    -- only a seat that holds a unit can fail it
    unfailed : z.0.phase ≡ stage.Failed → ⊥
    unfailed f = split (after_fields m e u z.0 z.1)
      where
        by_fail : (y.phase ≡ stage.Failed) ⊎ FailsBy c u → ⊥
        by_fail (inl g) = both_ways (is_over y.phase) (ap is_over d.done) (ap is_over g)
        by_fail (inr p) =
            let g = subst (Guard m e.seat.0) p.1 one.guard in
            let is = same_element (slice_get m.units u) g.0 y (ap (slice_get m.units) (sym p.2) ∙ g.1) t in
            let seated = ap (λ (w : UnitRow). is_some w.seat) (sym is) ∙ ap is_some g.2 in
            both_ways (is_some y.seat) ((one.sound.units_fit u y t).seat (ap is_defunct d.done) ∙ ap is_held_phase d.done) seated

        split : ((w : UnitRow) × (slice_get m.units u ≡ Some w) × HasFields m c u w z.0) ⊎ IsNew m c u z.0 → ⊥
        split (inl p) = by_fail (subst (λ (w : UnitRow). (w.phase ≡ stage.Failed) ⊎ FailsBy c u) (same_element (slice_get m.units u) p.0 y p.1 t) (p.2.failed f))
        split (inr p) = none_there (slice_get m.units u) y p.1 t

    by_over : DoneOrOver x z.0 → StaysDone x z.0 ⊎ (z.0.phase ≡ stage.Defunct)
    by_over (inl s) = inl s
    by_over (inr o) = by_case (over_cases z.0.phase o)
      where
        by_case : (z.0.phase ≡ stage.Failed) ⊎ (z.0.phase ≡ stage.Defunct) → StaysDone x z.0 ⊎ (z.0.phase ≡ stage.Defunct)
        by_case (inl f) = absurd (unfailed f)
        by_case (inr g) = inr g

    by_run : ((w : UnitRow) × (slice_get m.units u ≡ Some w) × Runs (doing_of c) m u w now.0) ⊎ ((k : ℕ) × (v : Meaning) × (vs : List Verdict) × (now.0 ≡ new_unit k v vs) × (u ≡ length m.units)) → StaysDone x z.0 ⊎ (z.0.phase ≡ stage.Defunct)
    by_run (inl p) = by_over (run_done Other (changed c m) u x now.0 z.0
        (run_done (doing_of c) m u x y now.0 (inl d) (subst (λ w. Runs (doing_of c) m u w now.0) (same_element (slice_get m.units u) p.0 y p.1 t) p.2)) now.2)
    by_run (inr p) = none_there (slice_get m.units u) y (none_past m.units u (omega (arith, p.4))) t

pub done_stays : DoneStays
done_stays jmax h more l u x t d = kept_along jmax (DoneOrGone u x) (still_done jmax u x) h more l (x, t, inl (record { meaning = refl; live = refl; base = refl; bound = refl; done = d }))
