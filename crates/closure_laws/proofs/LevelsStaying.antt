-- An instance that came to a level stays there, or it is lost; one that is lost stays so.
use Rattle.std.proofs.Common.{◌≡◌, ℕ, Bool, true, false, not, ◌||◌, List, ◌++◌, slice_get, ◌⊎◌, inl, inr, subst, sym, refl, ap, ◌∙◌, Some, is_some}
use Rattle.std.proofs.lemmas.Bool.{both_ways, or_cases, not-true, false_from_ne_true}
pub use Rattle.list_laws.proofs.Lists.{some_below as row_below}
use Rattle.orc_ids.specs.declared.lookup.Level.TheVariants as level
use Rattle.session_model.specs.Meaning.{Meaning}
use Rattle.session_model.specs.Plain.{Plain, address_at, failed_at, present_at}
use Rattle.session_model.specs.Query.{at_level, is_lost}
use Rattle.session_model.specs.Change.{changed}
use Rattle.session_model.specs.State.{state}
use Rattle.session_model.specs.History.{IsLegal}
use Rattle.session_model.specs.declared.change.Change.{Change}
use Rattle.session_model.specs.declared.entry.Entry.{Entry}
use Rattle.session_model.specs.declared.rows.InstRow.{InstRow}
use Rattle.session_laws.proofs.Declared.{test_is, ready_from_test, test_from_ready, ready_stays_ready, Guard, settled_rows}
use Rattle.session_laws.specs.Sound.{IsSound}
use Rattle.closure_laws.proofs.Histories.{kept_by_changes}
use Rattle.closure_laws.proofs.Linking.{some_there}
use Rattle.closure_laws.proofs.RowMoving.{change_rows, run_same}
use Rattle.closure_laws.proofs.Staying.{addresses_stay, failures_stay}
use Rattle.closure_laws.specs.Bindings.{IsAt}
use Rattle.closure_laws.specs.Levels.{LevelsStay, LossesStay}

-- one that failed is lost
failed_lost : (rows : List InstRow) (i : ℕ) → failed_at rows i ≡ true → is_lost rows i ≡ true
failed_lost rows i e = ap (λ b. b || not (present_at rows i)) e

pub levels_stay : LevelsStay
levels_stay jmax h more l level.Resolved i e = split (addresses_stay jmax h more l i had.0 had.1)
  where
    had : (a : ℕ) × (address_at (state h).rows i ≡ Some a)
    had = some_there (address_at (state h).rows i) e

    split : IsAt (state (h ++ more)).rows i had.0 → (at_level (state (h ++ more)).rows level.Resolved i ≡ true) ⊎ (is_lost (state (h ++ more)).rows i ≡ true)
    split (inl a) = inl (ap is_some a)
    split (inr f) = inr (failed_lost (state (h ++ more)).rows i f)
levels_stay jmax h more l level.Ready i e = inl (test_from_ready (state (h ++ more)).rows i (ready_stays_ready jmax h more l i (ready_from_test (state h).rows i e)).0)

-- the instance is there, and gone
abbrev IsGone : List InstRow → ℕ → Type 0
IsGone rows i = (r : InstRow) × (slice_get rows i ≡ Some r) × (r.present ≡ false)

gone_stays : (jmax : ℕ) (h more : List (Entry Meaning)) → IsLegal jmax (h ++ more) → (i : ℕ) → IsGone (state h).rows i → IsGone (state (h ++ more)).rows i
gone_stays jmax h more l i = kept_by_changes (λ rows units queries. IsGone rows i) step (λ m sound p. subst (λ rows. IsGone rows i) (sym (settled_rows m)) p) jmax h more l
  where
    step : (m : Plain) (s : ℕ) (c : Change Meaning) → IsSound m → Guard m s c → IsGone m.rows i → IsGone (changed c m).rows i
    step m s c sound g p = let q = change_rows m s c sound g i p.0 p.1 in
        (q.0, q.1, false_from_ne_true q.0.present (λ e. both_ways p.0.present p.2 ((run_same m c i p.0 q.0 q.2).present e)))

pub losses_stay : LossesStay
losses_stay jmax h more l i below e = split (or_cases (failed_at (state h).rows i) (not (present_at (state h).rows i)) e)
  where
    lost : (b : Bool) → present_at (state (h ++ more)).rows i ≡ false → (b || not (present_at (state (h ++ more)).rows i)) ≡ true
    lost true f = refl
    lost false f = ap not f

    split : (failed_at (state h).rows i ≡ true) ⊎ (not (present_at (state h).rows i) ≡ true) → is_lost (state (h ++ more)).rows i ≡ true
    split (inl f) = failed_lost (state (h ++ more)).rows i (failures_stay jmax h more l i f)
    split (inr n) =
        let r = row_below (state h).rows i below in
        let q = gone_stays jmax h more l i (r.0, r.1, sym (test_is (λ (y : InstRow). y.present) (state h).rows i r.0 r.1) ∙ not-true (present_at (state h).rows i) n) in
        lost (failed_at (state (h ++ more)).rows i) (test_is (λ (y : InstRow). y.present) (state (h ++ more)).rows i q.0 q.1 ∙ q.2)
