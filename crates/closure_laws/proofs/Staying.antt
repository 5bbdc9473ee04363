-- An instance that has an address keeps it, or it fails; one that failed stays so.
use Rattle.std.proofs.Common.{◌≡◌, ℕ, true, false, List, ◌++◌, slice_get, ◌⊎◌, inl, inr, subst, sym, refl, ap, ◌∙◌, Option, Some, None, unwrap_or}
use Rattle.std.specs.Option.{option_map_or}
use Rattle.std.proofs.lemmas.Bool.{both_ways}
use Rattle.std.proofs.lemmas.Option.{none-some}
use Rattle.session_model.specs.Meaning.{Meaning}
use Rattle.session_model.specs.Plain.{Plain, is_failed, is_unsearched, phase_address, address_at, failed_at}
use Rattle.session_model.specs.Change.{changed}
use Rattle.session_model.specs.State.{state}
use Rattle.session_model.specs.History.{IsLegal}
use Rattle.session_model.specs.declared.change.Change.{Change}
use Rattle.session_model.specs.declared.entry.Entry.{Entry}
use Rattle.session_model.specs.declared.rows.InstRow.{InstRow}
use Rattle.session_model.specs.declared.rows.Phase.{Phase}
use Rattle.session_model.specs.declared.rows.Phase.TheVariants as phase
use Rattle.session_laws.proofs.Declared.{same_element, test_parts, test_from, Guard, settled_rows}
use Rattle.session_laws.specs.Sound.{IsSound, is_claimed, is_resolved}
use Rattle.closure_laws.proofs.Histories.{kept_by_changes}
use Rattle.closure_laws.proofs.RowMoving.{RowMoves, RowStays, RowYields, RowClaimed, RowResolved, RowEmitted, RowFails, RowGoes, RowRuns, RowHere, RowOn, change_rows}
use Rattle.closure_laws.specs.Bindings.{IsAt, AddressesStay, FailuresStay}

-- at a phase there is this address, or the instance failed
abbrev pub AtPhase : ℕ → Phase → Type 0
AtPhase a p = (phase_address p ≡ Some a) ⊎ (is_failed p ≡ true)

unsearched_isnt : {P : Type 0} (a : ℕ) (p : Phase) → is_unsearched p ≡ true → AtPhase a p → P
unsearched_isnt a phase.Unsearched e (inl f) = absurd (none-some a f)
unsearched_isnt a phase.Unsearched e (inr f) = absurd (both_ways false refl f)
unsearched_isnt a _ e f = absurd (both_ways false refl e)

claimed_isnt : {P : Type 0} (a : ℕ) (p : Phase) → is_claimed p ≡ true → AtPhase a p → P
claimed_isnt a phase.Claimed e (inl f) = absurd (none-some a f)
claimed_isnt a phase.Claimed e (inr f) = absurd (both_ways false refl f)
claimed_isnt a _ e f = absurd (both_ways false refl e)

resolved_has : (a : ℕ) (p : Phase) → is_resolved p ≡ true → AtPhase a p → Some (unwrap_or (phase_address p) 0) ≡ Some a
resolved_has a (phase.Resolved b) e (inl f) = f
resolved_has a (phase.Resolved b) e (inr f) = absurd (both_ways false refl f)
resolved_has a _ e f = absurd (both_ways false refl e)

move_at : (m : Plain) (c : Change Meaning) (i a : ℕ) (r q : InstRow) → RowMoves m c i r q → AtPhase a r.phase → AtPhase a q.phase
move_at m c i a r _ RowStays h = h
move_at m c i a r _ (RowYields d e) h = h
move_at m c i a r _ (RowClaimed e) h = unsearched_isnt a r.phase e h
move_at m c i a r _ (RowResolved b e) h = claimed_isnt a r.phase e h
move_at m c i a r _ (RowEmitted u groups x is v t f own e) h = inl (resolved_has a r.phase e h)
move_at m c i a r _ RowFails h = inr refl
move_at m c i a r _ (RowGoes t is e) h = h

run_at : (m : Plain) (c : Change Meaning) (i a : ℕ) (r q : InstRow) → RowRuns m c i r q → AtPhase a r.phase → AtPhase a q.phase
run_at m c i a r _ RowHere h = h
run_at m c i a r _ (RowOn p q b d) h = move_at m c i a p q d (run_at m c i a r p b h)

pub at_parts : (rows : List InstRow) (i a : ℕ) → IsAt rows i a → (r : InstRow) × (slice_get rows i ≡ Some r) × AtPhase a r.phase
at_parts rows i a (inl e) = split (slice_get rows i) refl e
  where
    split : (o : Option InstRow) → slice_get rows i ≡ o → option_map_or (λ (r : InstRow). phase_address r.phase) o None ≡ Some a → (r : InstRow) × (slice_get rows i ≡ Some r) × AtPhase a r.phase
    split None is f = absurd (none-some a f)
    split (Some r) is f = (r, is, inl f)
at_parts rows i a (inr e) = let p = test_parts (λ (r : InstRow). is_failed r.phase) rows i e in (p.0, p.1, inr p.2)

pub at_from : (rows : List InstRow) (i a : ℕ) (r : InstRow) → slice_get rows i ≡ Some r → AtPhase a r.phase → IsAt rows i a
at_from rows i a r e (inl f) = inl (ap (λ o. option_map_or (λ (r : InstRow). phase_address r.phase) o None) e ∙ f)
at_from rows i a r e (inr f) = inr (test_from (λ (r : InstRow). is_failed r.phase) rows i r e f)

changed_at_same : (m : Plain) (s : ℕ) (c : Change Meaning) (i a : ℕ) → IsSound m → Guard m s c → IsAt m.rows i a → IsAt (changed c m).rows i a
changed_at_same m s c i a h g at = let p = at_parts m.rows i a at in
    let q = change_rows m s c h g i p.0 p.1 in
    at_from (changed c m).rows i a q.0 q.1 (run_at m c i a p.0 q.0 q.2 p.2)

-- both laws in one: an address stays until its instance fails, and a failure stays
pub at_stays : (jmax : ℕ) (h more : List (Entry Meaning)) → IsLegal jmax (h ++ more) → (i a : ℕ) → IsAt (state h).rows i a → IsAt (state (h ++ more)).rows i a
at_stays jmax h more l i a = kept_by_changes (λ rows units queries. IsAt rows i a)
    (λ m s c sound g at. changed_at_same m s c i a sound g at)
    (λ m sound at. subst (λ rows. IsAt rows i a) (sym (settled_rows m)) at)
    jmax h more l

pub addresses_stay : AddressesStay
addresses_stay jmax h more l i a e = at_stays jmax h more l i a (inl e)

-- an instance at two addresses failed
pub failures_stay : FailuresStay
failures_stay jmax h more l i e = split (at_stays jmax h more l i 0 (inr e)) (at_stays jmax h more l i 1 (inr e))
  where
    split : IsAt (state (h ++ more)).rows i 0 → IsAt (state (h ++ more)).rows i 1 → failed_at (state (h ++ more)).rows i ≡ true
    split (inr f) b = f
    split (inl a) (inr f) = f
    split (inl a) (inl b) = let is : ◌≡◌ {A = ℕ} 0 1 = same_element (address_at (state (h ++ more)).rows i) 0 1 a b in absurd (cc)
