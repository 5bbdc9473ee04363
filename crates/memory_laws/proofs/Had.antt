-- An instance that has an address was present with it: it was given while it was present, and only what is over is gone.
use Rattle.std.proofs.Common.{◌≡◌, ℕ, ◌+◌, ◌≤◌, Bool, true, false, ◌==◌, List, [], ◌∷◌, ◌++◌, length, slice_get, take, drop, arith, le_refl, ◌⊎◌, inl, inr, subst, sym, refl, ap, ◌∙◌, Option, Some, None, unwrap_or}
use Rattle.std.specs.Bool.{if◌then◌else◌}
use Rattle.std.specs.Option.{option_map_or}
use Rattle.std.proofs.lemmas.Bool.{and_parts, both_ways}
use Rattle.std.proofs.lemmas.List.{length-append, take-append-le, take_all}
use Rattle.std.proofs.lemmas.Option.{none-some}
use Rattle.orc_ids.specs.declared.groups.Group.{Group}
use Rattle.orc_ids.specs.declared.ids.DylibId.{DylibId}
use Rattle.orc_ids.specs.declared.ids.GenId.{GenId}
use Rattle.orc_ids.specs.declared.ids.TrackId.{TrackId}
use Rattle.orc_ids.specs.declared.ids.UnitId.{UnitId}
use Rattle.session_model.specs.Change.{change_of, changed, deps_in, defined, emitted_row, new_rows, spent, unreplaced_row}
use Rattle.session_model.specs.History.{IsLegal}
use Rattle.session_model.specs.Lists.{numbered}
use Rattle.session_model.specs.Meaning.{Meaning}
use Rattle.session_model.specs.Plain.{GenRow, Plain, address_at, empty, is_emitted, is_owned, phase_address, present_at}
use Rattle.session_model.specs.Reach.{IsReady}
use Rattle.session_model.specs.State.{state}
use Rattle.session_model.specs.declared.change.Change.{Change}
use Rattle.session_model.specs.declared.change.Change.TheVariants.{Define, Emit, Generate}
use Rattle.session_model.specs.declared.entry.Entry.{Entry}
use Rattle.session_model.specs.declared.rows.InstRow.{InstRow}
use Rattle.session_model.specs.declared.rows.Phase.{Phase}
use Rattle.session_model.specs.declared.rows.Phase.TheVariants as phase
use Rattle.session_model.specs.declared.rows.Verdict.{Verdict}
use Rattle.session_laws.proofs.Declared.{state_from_push, new_rows_phase, appended_cases, numbered_parts, same_element, front_and_rest, ready_emitted, test_from, test_parts, legal_is_sound, Guard, settled_rows}
use Rattle.session_laws.specs.Sound.{IsSound, is_underway}
use Rattle.closure_laws.proofs.Declared.{is_define, OneMore, kept_along, define_or, RowMoves, RowStays, RowYields, RowClaimed, RowResolved, RowEmitted, RowFails, RowGoes, RowRuns, RowHere, RowOn, change_rows, row_was}

-- after so many entries the instance was present, at this address
pub record HadAddress (h : List (Entry Meaning)) (i a : ℕ) : Type 0 where
  pub at : ℕ
  pub here : at ≤ length h
  pub present : present_at (state (take at h)).rows i ≡ true
  pub address : address_at (state (take at h)).rows i ≡ Some a

-- the row of an instance that has an address
pub record HasRow (rows : List InstRow) (i a : ℕ) : Type 0 where
  pub row : InstRow
  pub there : slice_get rows i ≡ Some row
  pub address : phase_address row.phase ≡ Some a

pub row_of_address : (rows : List InstRow) (i address : ℕ) → address_at rows i ≡ Some address → HasRow rows i address
row_of_address rows i address = split (slice_get rows i) refl
  where
    split : (o : Option InstRow) → slice_get rows i ≡ o → option_map_or (λ (r : InstRow). phase_address r.phase) o None ≡ Some address → HasRow rows i address
    split None e f = absurd (none-some address f)
    split (Some r) e f = record { row = r; there = e; address = f }

pub address_of_row : (rows : List InstRow) (i address : ℕ) → HasRow rows i address → address_at rows i ≡ Some address
address_of_row rows i address r = ap (λ o. option_map_or (λ (q : InstRow). phase_address q.phase) o None) r.there ∙ r.address

-- an emitted instance has an address
emitted_address : (p : Phase) → is_emitted p ≡ true → (a : ℕ) × (phase_address p ≡ Some a)
emitted_address (phase.Emitted a ds) e = (a, refl)
emitted_address _ e = absurd (both_ways false refl e)

-- so a ready one has
pub ready_address : (rows : List InstRow) (i : ℕ) → IsReady rows i → (a : ℕ) × (address_at rows i ≡ Some a)
ready_address rows i ready =
    let r = test_parts (λ (q : InstRow). is_emitted q.phase) rows i (ready_emitted rows i ready) in
    let a = emitted_address r.0.phase r.2 in
    (a.0, ap (λ o. option_map_or (λ (q : InstRow). phase_address q.phase) o None) r.1 ∙ a.1)

-- Gone instances

-- an instance on which no work is under way, and that has an address, is emitted
addressed_emitted : (p : Phase) (a : ℕ) → phase_address p ≡ Some a → is_underway p ≡ false → is_emitted p ≡ true
addressed_emitted (phase.Emitted b ds) a e f = refl
addressed_emitted (phase.Resolved b) a e f = absurd (both_ways true f refl)
addressed_emitted phase.Unsearched a e f = absurd (none-some a e)
addressed_emitted phase.Claimed a e f = absurd (none-some a e)
addressed_emitted phase.Failed a e f = absurd (none-some a e)

-- it was at this phase before, but for an emission
abbrev WasSo : Change Meaning → InstRow → InstRow → Type 0
WasSo c r q = (r.phase ≡ q.phase) ⊎ ((u : UnitId) × (groups : List Group) × (c ≡ Emit u groups))

move_was : (m : Plain) (c : Change Meaning) (i : ℕ) (r p q : InstRow) → (is_emitted p.phase ≡ true → WasSo c r p) → RowMoves m c i p q → is_emitted q.phase ≡ true → WasSo c r q
move_was m c i r p _ old RowStays e = old e
move_was m c i r p _ old (RowYields d f) e = old e
move_was m c i r p _ old (RowClaimed f) e = absurd (both_ways false refl e)
move_was m c i r p _ old (RowResolved b f) e = absurd (both_ways false refl e)
move_was m c i r p _ old (RowEmitted u groups x is v t f own d) e = inr (u, groups, is)
move_was m c i r p _ old RowFails e = absurd (both_ways false refl e)
move_was m c i r p _ old (RowGoes t is f) e = old e

run_was : (m : Plain) (c : Change Meaning) (i : ℕ) (r q : InstRow) → RowRuns m c i r q → is_emitted q.phase ≡ true → WasSo c r q
run_was m c i r _ RowHere e = inl refl
run_was m c i r _ (RowOn p q a b) e = move_was m c i r p q (run_was m c i r p a) b e

-- a definition gives no instance an address
defined_was : (m : Plain) (d t : ℕ) (v : Meaning) (vs : List Verdict) (i a : ℕ) (q : InstRow) → slice_get (defined d t v vs m).rows i ≡ Some q → phase_address q.phase ≡ Some a → HasRow m.rows i a
defined_was m d t v vs i a q e f = split (appended_cases (numbered (unreplaced_row vs) 0 m.rows) (new_rows d (length m.units) 0 v.offers vs) i q e)
  where
    split : (slice_get (numbered (unreplaced_row vs) 0 m.rows) i ≡ Some q) ⊎ ((j : ℕ) × (i ≡ length (numbered (unreplaced_row vs) 0 m.rows) + j) × (slice_get (new_rows d (length m.units) 0 v.offers vs) j ≡ Some q)) → HasRow m.rows i a
    split (inl old) = let r = numbered_parts (unreplaced_row vs) m.rows i q old in record { row = r.0; there = r.1; address = ap (λ (z : InstRow). phase_address z.phase) (sym r.2) ∙ f }
    split (inr new) = absurd (none-some a (sym (ap phase_address (new_rows_phase d (length m.units) 0 v.offers vs new.0 q new.2)) ∙ f))

-- nor does an emission, to one that is gone
emitted_was : (rows : List InstRow) (u : ℕ) (groups : List Group) (i a : ℕ) (q : InstRow) → slice_get (numbered (emitted_row u groups) 0 rows) i ≡ Some q → q.present ≡ false → phase_address q.phase ≡ Some a → HasRow rows i a
emitted_was rows u groups i a q e gone f = record { row = r.0; there = r.1; address = by_owned (is_owned u r.0) refl at }
  where
    r : (r : InstRow) × (slice_get rows i ≡ Some r) × (q ≡ emitted_row u groups i r)
    r = numbered_parts (emitted_row u groups) rows i q e

    at : phase_address (emitted_row u groups i r.0).phase ≡ Some a
    at = ap (λ (z : InstRow). phase_address z.phase) (sym r.2) ∙ f

    absent : r.0.present ≡ false
    absent = ap (λ (z : InstRow). z.present) (sym r.2) ∙ gone

    by_owned : (b : Bool) → is_owned u r.0 ≡ b → phase_address (emitted_row u groups i r.0).phase ≡ Some a → phase_address r.0.phase ≡ Some a
    by_owned true own g = absurd (both_ways r.0.present absent (and_parts r.0.present (r.0.unit.0 == u) own).0)
    by_owned false other g = subst (λ b. phase_address (if b then phase.Emitted (unwrap_or (phase_address r.0.phase) 0) (deps_in groups i) else r.0.phase) ≡ Some a) other g

-- so one that is gone after a change had its address before
gone_was : (m : Plain) (s : ℕ) (c : Change Meaning) (i a : ℕ) (q : InstRow) → IsSound m → Guard m s c → slice_get (changed c m).rows i ≡ Some q → q.present ≡ false → is_emitted q.phase ≡ true → phase_address q.phase ≡ Some a → HasRow m.rows i a
gone_was m s c i a q h g e gone done f = split (define_or c)
  where
    by_gen : (k : GenId) (found : List Verdict) (o : Option GenRow) → slice_get (option_map_or (λ x. spent k.0 (defined x.dylib x.tracker x.meaning found m)) o m).rows i ≡ Some q → HasRow m.rows i a
    by_gen k found None t = record { row = q; there = t; address = f }
    by_gen k found (Some x) t = defined_was m x.dylib x.tracker x.meaning found i a q t f

    by_was : (r : InstRow) → slice_get m.rows i ≡ Some r → WasSo c r q → HasRow m.rows i a
    by_was r t (inl same) = record { row = r; there = t; address = ap phase_address same ∙ f }
    by_was r t (inr p) = emitted_was m.rows p.0.0 p.1 i a q (ap (λ d. slice_get (changed d m).rows i) (sym p.2) ∙ e) gone f

    split : ((d : DylibId) × (t : TrackId) × (v : Meaning) × (found : List Verdict) × (c ≡ Define d t v found)) ⊎ (((k : GenId) × (found : List Verdict) × (c ≡ Generate k found)) ⊎ (is_define c ≡ false)) → HasRow m.rows i a
    split (inl (d, t, v, found, is)) = defined_was m d.0 t.0 v found i a q (ap (λ b. slice_get (changed b m).rows i) (sym is) ∙ e) f
    split (inr (inl (k, found, is))) = by_gen k found (slice_get m.generators k.0) (ap (λ b. slice_get (changed b m).rows i) (sym is) ∙ e)
    split (inr (inr other)) =
        let r = row_was m s c other h g i q e in
        let z = change_rows m s c h g i r.0 r.1 in
        by_was r.0 r.1 (subst (WasSo c r.0) (same_element (slice_get (changed c m).rows i) z.0 q z.1 e) (run_was m c i r.0 z.0 z.2 (ap (λ (p : InstRow). is_emitted p.phase) (same_element (slice_get (changed c m).rows i) z.0 q z.1 e) ∙ done)))

-- Along a history

-- what it had at the beginning of a history it had
pub had_in_front : (h more : List (Entry Meaning)) (i a : ℕ) → HadAddress h i a → HadAddress (h ++ more) i a
had_in_front h more i a had = record {
  at = had.at;
  here = omega (arith, had.here, length-append h more);
  present = ap (λ g. present_at (state g).rows i) front ∙ had.present;
  address = ap (λ g. address_at (state g).rows i) front ∙ had.address;
}
  where
    front : take had.at (h ++ more) ≡ take had.at h
    front = take-append-le had.at h more had.here

pub had_before : (h : List (Entry Meaning)) (k i a : ℕ) → HadAddress (take k h) i a → HadAddress h i a
had_before h k i a had = subst (λ g. HadAddress g i a) (sym (front_and_rest k h)) (had_in_front (take k h) (drop k h) i a had)

-- an instance that is present has what it has
pub has_now : (h : List (Entry Meaning)) (i a : ℕ) → present_at (state h).rows i ≡ true → address_at (state h).rows i ≡ Some a → HadAddress h i a
has_now h i a present address = record {
  at = length h;
  here = le_refl (length h);
  present = ap (λ g. present_at (state g).rows i) whole ∙ present;
  address = ap (λ g. address_at (state g).rows i) whole ∙ address;
}
  where
    whole : take (length h) h ≡ h
    whole = take_all (length h) h (le_refl (length h))

abbrev AllHad : List (Entry Meaning) → Type 0
AllHad h = (i a : ℕ) → address_at (state h).rows i ≡ Some a → HadAddress h i a

one_more_had : (jmax : ℕ) (h : List (Entry Meaning)) (e : Entry Meaning) → OneMore jmax h e → AllHad h → AllHad (h ++ e ∷ [])
one_more_had jmax h e one old i a address = split r.row.present refl
  where
    m : Plain
    m = state h

    c : Change Meaning
    c = change_of m e.seat.0 e.event e.reply

    r : HasRow (state (h ++ e ∷ [])).rows i a
    r = row_of_address (state (h ++ e ∷ [])).rows i a address

    there : slice_get (changed c m).rows i ≡ Some r.row
    there = ap (λ rows. slice_get rows i) (sym (settled_rows (changed c m))) ∙ ap (λ (n : Plain). slice_get n.rows i) (sym (state_from_push empty h e)) ∙ r.there

    split : (b : Bool) → r.row.present ≡ b → HadAddress (h ++ e ∷ []) i a
    split true present = has_now (h ++ e ∷ []) i a (test_from (λ (q : InstRow). q.present) (state (h ++ e ∷ [])).rows i r.row r.there present) address
    split false gone =
        let over = ((legal_is_sound jmax (h ++ e ∷ []) one.legal).rows_fit i r.row r.there).gone gone in
        let was = gone_was m e.seat.0 c i a r.row one.sound one.guard there gone (addressed_emitted r.row.phase a r.address over) r.address in
        had_in_front h (e ∷ []) i a (old i a (address_of_row m.rows i a was))

pub all_had : (jmax : ℕ) (h : List (Entry Meaning)) → IsLegal jmax h → AllHad h
all_had jmax h l = kept_along jmax AllHad (one_more_had jmax) [] h l (λ i a e. absurd (none-some a e))
