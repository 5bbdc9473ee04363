-- What a lookup at Ready found is ready at its address, and stays so.
use Rattle.std.proofs.Common.{◌≡◌, ◌≢◌, ℕ, true, List, [], ◌∷◌, take, drop, slice_get, All, Option, Some, None, option_map, option_and_then, refl, sym, ap, subst, ◌∙◌}
use Rattle.std.specs.Prelude.{unwrap_or}
use Rattle.std.specs.Option.{option_map_or}
use Rattle.std.proofs.lemmas.Bool.{and_parts}
use Rattle.std.proofs.lemmas.List.{take-append-drop}
use Rattle.std.proofs.lemmas.List.Elements.{All-cons, All-nil}
use Rattle.orc_ids.specs.declared.ids.InstId.{InstId}
use Rattle.orc_ids.specs.declared.lookup.Level.TheVariants.{Ready}
use Rattle.session_model.specs.History.{IsLegal}
use Rattle.session_model.specs.Meaning.{Meaning}
use Rattle.session_model.specs.Plain.{address_at, phase_address}
use Rattle.session_model.specs.Query.{addresses, all_at, at_level}
use Rattle.session_model.specs.Reach.{IsReady}
use Rattle.session_model.specs.State.{state}
use Rattle.session_model.specs.declared.entry.Entry.{Entry}
use Rattle.session_model.specs.declared.rows.InstRow.{InstRow}
use Rattle.session_laws.specs.Readiness.{phase_at}
use Rattle.session_laws.proofs.Declared.{ready_from_test, ready_stays_ready}
use Rattle.session_promises.specs.Laws.{FoundStaysReady}
use Rattle.session_promises.specs.Lookups.{StandsReady}

-- an address is that of the phase
pub address_is : (rows : List InstRow) (i : ℕ) → address_at rows i ≡ option_and_then phase_address (phase_at rows i)
address_is rows i = split (slice_get rows i)
  where
    split : (o : Option InstRow) → option_map_or (λ r. phase_address r.phase) o None ≡ option_and_then phase_address (option_map (λ r. r.phase) o)
    split None = refl
    split (Some r) = refl

-- one that isn't 0 in a reply is the instance's
told_is : (o : Option ℕ) → unwrap_or o 0 ≢ 0 → o ≡ Some (unwrap_or o 0)
told_is None some = absurd (some refl)
told_is (Some a) some = refl

-- the same phase has the same address
pub same_address : (rows later : List InstRow) (i : ℕ) → phase_at later i ≡ phase_at rows i → address_at later i ≡ address_at rows i
same_address rows later i same = address_is later i ∙ (ap (option_and_then phase_address) same ∙ sym (address_is rows i))

module _ (jmax : ℕ) (h : List (Entry Meaning)) (legal : IsLegal jmax h) (n : ℕ) where
  abbrev Then : List InstRow
  Then = (state (take n h)).rows

  abbrev Now : List InstRow
  Now = (state h).rows

  one_stands : (i : InstId) → at_level Then Ready i.0 ≡ true → StandsReady Now (Some (i, unwrap_or (address_at Then i.0) 0))
  one_stands i at_ready some =
      let whole = take-append-drop n h in
      let kept = ready_stays_ready jmax (take n h) (drop n h) (subst (IsLegal jmax) (sym whole) legal) i.0 (ready_from_test Then i.0 at_ready) in
      let same : phase_at Now i.0 ≡ phase_at Then i.0 = ap (λ g. phase_at (state g).rows i.0) (sym whole) ∙ kept.1 in
      (subst (λ g. IsReady (state g).rows i.0) whole kept.0, same_address Then Now i.0 same ∙ told_is (address_at Then i.0) some)

  each_stands : (found : List (Option InstId)) → all_at Then Ready found ≡ true → All (StandsReady Now) (addresses Then found)
  each_stands [] all = All-nil (StandsReady Now)
  each_stands (None ∷ found) all = All-cons (StandsReady Now) None (addresses Then found) tt (each_stands found all)
  each_stands (Some i ∷ found) all = let parts = and_parts (at_level Then Ready i.0) (all_at Then Ready found) all in
      All-cons (StandsReady Now) (Some (i, unwrap_or (address_at Then i.0) 0)) (addresses Then found) (one_stands i parts.0) (each_stands found parts.1)

pub found_stays_ready : FoundStaysReady
found_stays_ready jmax h legal l q at matches f at_ready = subst (All (StandsReady (state h).rows)) (sym f.are)
    (each_stands jmax h legal at f.found (subst (λ v. all_at (state (take at h)).rows v f.found ≡ true) at_ready f.first.here))
