-- Nothing but a fail or a removal fails an instance.
use Rattle.session_model.specs.Change.{unreplaced_row, resolved_unit, resolved_row, moved_unit, moved_generator, gone_tracker}
use Rattle.session_model.specs.declared.rows.Verdict.{Verdict}
use Rattle.std.proofs.Common.{◌≡◌, ℕ, ◌+◌, Bool, true, false, ◌&&◌, ◌==◌, map, List, [], ◌∷◌, length, slice_get, ◌⊎◌, inl, inr, subst, sym, refl, ap, ◌∙◌, Option, Some, None, option_map, unwrap_or}
use Rattle.std.specs.Bool.{if◌then◌else◌}
use Rattle.std.specs.Option.{option_map_or}
use Rattle.std.proofs.lemmas.Bool.{both_ways}
use Rattle.orc_ids.specs.declared.ids.InstId.{InstId}
use Rattle.session_model.specs.Lists.{changed_at, numbered}
use Rattle.session_model.specs.Plain.{Plain, UnitRow, GenRow, is_unsearched, is_failed, is_owned, failed_at}
use Rattle.session_model.specs.declared.entry.Reply.TheVariants as reply
use Rattle.session_model.specs.declared.rows.InstRow.{InstRow}
use Rattle.session_model.specs.declared.rows.Phase.{Phase}
use Rattle.session_model.specs.declared.rows.Phase.TheVariants as phase
use Rattle.session_model.specs.Plain.{phase_address}
use Rattle.session_model.specs.Change.{deps_in, claimed}
use Rattle.session_laws.proofs.Elements.{map_parts, numbered_at, mapped_at, numbered_parts}
use Rattle.session_laws.proofs.Facts.{test_parts, test_from}
use Rattle.session_laws.proofs.Settling.{chosen}
use Rattle.session_model.specs.Meaning.{Meaning}
use Rattle.session_model.specs.Change.{new_rows, defined, all_claimed, claimed_for}
use Rattle.session_laws.proofs.Elements.{appended_cases}
use Rattle.session_model.specs.Change.{change_of, changed}
use Rattle.session_model.specs.declared.change.Change.{Change}
use Rattle.session_model.specs.declared.change.Change.TheVariants.{Nothing, MakeDylib, MakeTracker, SetOrder, Attach, Define, Generate, Spend, Ask, Start, Finish, Place, Resolve, Link, Emit, Fail, Move, Remove, LetGo}
use Rattle.session_model.specs.declared.entry.Event.{Event}
use Rattle.session_model.specs.declared.entry.Event.TheVariants as event
use Rattle.session_model.specs.declared.entry.Reply.{Reply}
use Rattle.session_model.specs.Change.{emitted, spent}
use Rattle.session_laws.proofs.Settling.{settled_rows}
use Rattle.session_model.specs.Plain.{phase_address}
use Rattle.session_laws.proofs.Defining.{new_rows_phase}
use Rattle.session_laws.specs.Failures.{IsFailure, OnlyFailuresFail}

-- No instance fails

abbrev pub FailsNone : List InstRow → List InstRow → Type 0
FailsNone rows new = (i : ℕ) → failed_at new i ≡ true → failed_at rows i ≡ true

none_same : (rows : List InstRow) → FailsNone rows rows
none_same rows i e = e

none_mapped : (rows new : List InstRow) (g : ℕ → InstRow → InstRow) → ((i : ℕ) (r : InstRow) → slice_get new i ≡ Some r → (is_failed r.phase ≡ false) ⊎ ((q : InstRow) × (slice_get rows i ≡ Some q) × (r ≡ g i q))) →
    ((i : ℕ) (r : InstRow) → is_failed (g i r).phase ≡ true → is_failed r.phase ≡ true) → FailsNone rows new
none_mapped rows new g from back i e = let p = test_parts (λ (r : InstRow). is_failed r.phase) new i e in split p.0 p.2 (from i p.0 p.1)
  where
    split : (r : InstRow) → is_failed r.phase ≡ true → (is_failed r.phase ≡ false) ⊎ ((q : InstRow) × (slice_get rows i ≡ Some q) × (r ≡ g i q)) → failed_at rows i ≡ true
    split r f (inl n) = absurd (both_ways (is_failed r.phase) n f)
    split r f (inr q) = test_from (λ (y : InstRow). is_failed y.phase) rows i q.0 q.1 (back i q.0 (subst (λ (y : InstRow). is_failed y.phase ≡ true) q.2 f))

none_rephased : (rows new : List InstRow) (test : ℕ → InstRow → Bool) (next : ℕ → InstRow → Phase) → ((i : ℕ) → slice_get new i ≡ option_map (λ (r : InstRow). record r { phase = if test i r then next i r else r.phase }) (slice_get rows i)) →
    ((i : ℕ) (r : InstRow) → is_failed (next i r) ≡ false) → FailsNone rows new
none_rephased rows new test next at unfailed = none_mapped rows new (λ i r. record r { phase = if test i r then next i r else r.phase })
    (λ i r e. inr (map_parts (λ (q : InstRow). record q { phase = if test i q then next i q else q.phase }) (slice_get rows i) r (sym (at i) ∙ e)))
    (λ i r. chosen (λ f. is_failed f ≡ true → is_failed r.phase ≡ true) (test i r) (next i r) r.phase (λ b f. absurd (both_ways (is_failed (next i r)) (unfailed i r) f)) (λ b f. f))

none_again : (rows new newer : List InstRow) → FailsNone rows new → FailsNone new newer → FailsNone rows newer
none_again rows new newer f g i e = f i (g i e)

claim_none : (i : InstId) (m : Plain) → FailsNone m.rows (claimed_for i m).rows
claim_none i m = split (slice_get m.rows i.0)
  where
    split : (o : Option InstRow) → FailsNone m.rows (option_map_or (λ (r : InstRow). if is_unsearched r.phase then claimed r.unit.0 m else m) o m).rows
    split None = none_same m.rows
    split (Some r) = chosen (λ n. FailsNone m.rows n.rows) (is_unsearched r.phase) (claimed r.unit.0 m) m
        (λ b. none_rephased m.rows (claimed r.unit.0 m).rows (λ j q. is_owned r.unit.0 q && is_unsearched q.phase) (λ j q. phase.Claimed)
        (λ j. mapped_at (λ (q : InstRow). record q { phase = if is_owned r.unit.0 q && is_unsearched q.phase then phase.Claimed else q.phase }) m.rows j) (λ j q. refl))
        (λ b. none_same m.rows)

claims_none : (os : List (Option InstId)) (m : Plain) → FailsNone m.rows (all_claimed os m).rows
claims_none [] m = none_same m.rows
claims_none (None ∷ os) m = claims_none os m
claims_none (Some i ∷ os) m = none_again m.rows (claimed_for i m).rows (all_claimed os (claimed_for i m)).rows (claim_none i m) (claims_none os (claimed_for i m))

defined_none : (m : Plain) (d t : ℕ) (v : Meaning) (vs : List Verdict) → FailsNone m.rows (defined d t v vs m).rows
defined_none m d t v vs = none_mapped m.rows (defined d t v vs m).rows (unreplaced_row vs) from (λ i r f. f)
  where
    from : (i : ℕ) (r : InstRow) → slice_get (defined d t v vs m).rows i ≡ Some r → (is_failed r.phase ≡ false) ⊎ ((q : InstRow) × (slice_get m.rows i ≡ Some q) × (r ≡ unreplaced_row vs i q))
    from i r e = split (appended_cases (numbered (unreplaced_row vs) 0 m.rows) (new_rows d (length m.units) 0 v.offers vs) i r e)
      where
        split : (slice_get (numbered (unreplaced_row vs) 0 m.rows) i ≡ Some r) ⊎ ((j : ℕ) × (i ≡ length (numbered (unreplaced_row vs) 0 m.rows) + j) × (slice_get (new_rows d (length m.units) 0 v.offers vs) j ≡ Some r)) → (is_failed r.phase ≡ false) ⊎ ((q : InstRow) × (slice_get m.rows i ≡ Some q) × (r ≡ unreplaced_row vs i q))
        split (inl a) = inr (numbered_parts (unreplaced_row vs) m.rows i r a)
        split (inr a) = inl (ap is_failed (new_rows_phase d (length m.units) 0 v.offers vs a.0 r a.2))

-- the changes that fail instances
abbrev pub is_failing : Change Meaning → Bool
is_failing (Fail u) = true
is_failing (Remove t) = true
is_failing _ = false

change_none : (c : Change Meaning) (m : Plain) → is_failing c ≡ false → FailsNone m.rows (changed c m).rows
change_none Nothing m n = none_same m.rows
change_none (MakeDylib name) m n = none_same m.rows
change_none (MakeTracker d) m n = none_same m.rows
change_none (SetOrder d order) m n = none_same m.rows
change_none (Attach d t u) m n = none_same m.rows
change_none (Define d t u found) m n = defined_none m d.0 t.0 u found
change_none (Generate k found) m n = split (slice_get m.generators k.0)
  where
    split : (o : Option GenRow) → FailsNone m.rows (option_map_or (λ x. spent k.0 (defined x.dylib x.tracker x.meaning found m)) o m).rows
    split None = none_same m.rows
    split (Some x) = defined_none m x.dylib x.tracker x.meaning found
change_none (Spend k) m n = none_same m.rows
change_none (Ask found lev w) m n = claims_none found m
change_none (Start t u) m n = none_same m.rows
change_none (Finish t u how) m n = none_same m.rows
change_none (Place u base) m n = none_same m.rows
change_none (Resolve u) m n = split (slice_get m.units u.0)
  where
    split : (o : Option UnitRow) → FailsNone m.rows (option_map_or (λ (x : UnitRow). record m { rows = map (resolved_row u.0 (resolved_unit x)) m.rows; units = changed_at u.0 resolved_unit m.units }) o m).rows
    split None = none_same m.rows
    split (Some x) = none_rephased m.rows (map (resolved_row u.0 (resolved_unit x)) m.rows) (λ i r. is_owned u.0 r) (λ i r. phase.Resolved (x.meaning.address r.offer (unwrap_or (resolved_unit x).base 0)))
        (λ i. mapped_at (resolved_row u.0 (resolved_unit x)) m.rows i) (λ i r. refl)
change_none (Link u found) m n = claims_none found m
change_none (Emit u groups) m n = none_rephased m.rows (emitted u.0 groups m).rows (λ i r. is_owned u.0 r) (λ i r. phase.Emitted (unwrap_or (phase_address r.phase) 0) (deps_in groups i))
    (numbered_at (λ i (r : InstRow). record r { phase = if is_owned u.0 r then phase.Emitted (unwrap_or (phase_address r.phase) 0) (deps_in groups i) else r.phase }) m.rows) (λ i r. refl)
change_none (Fail u) m n = absurd (both_ways true n refl)
change_none (Move t to) m n = chosen (λ k. FailsNone m.rows k.rows) (t.0 == to.0) m (record m { units = map (moved_unit t.0 to.0) m.units; generators = map (moved_generator t.0 to.0) m.generators; trackers = changed_at t.0 gone_tracker m.trackers }) (λ b. none_same m.rows) (λ b. none_same m.rows)
change_none (Remove t) m n = absurd (both_ways true n refl)
change_none (LetGo t u) m n = none_same m.rows

-- the replies that make such a change
failure_or : (m : Plain) (s : ℕ) (e : Event Meaning) (r : Reply) → IsFailure e r ⊎ (is_failing (change_of m s e r) ≡ false)
failure_or m s event.Take (reply.Start u) = inr refl
failure_or m s event.Take (reply.Finish u how) = inr refl
failure_or m s event.Take (reply.Defunct u) = inr refl
failure_or m s event.Take _ = inr refl
failure_or m s (event.Dylib name) (reply.Made d) = inr refl
failure_or m s (event.Dylib name) (reply.Defunct u) = inr refl
failure_or m s (event.Dylib name) _ = inr refl
failure_or m s (event.Tracker d) (reply.Tracker t) = inr refl
failure_or m s (event.Tracker d) (reply.Defunct u) = inr refl
failure_or m s (event.Tracker d) _ = inr refl
failure_or m s (event.SetOrder d order) reply.Set = inr refl
failure_or m s (event.SetOrder d order) (reply.Defunct u) = inr refl
failure_or m s (event.SetOrder d order) _ = inr refl
failure_or m s (event.Attach d t u) (reply.Generator g) = inr refl
failure_or m s (event.Attach d t u) (reply.Defunct v) = inr refl
failure_or m s (event.Attach d t u) _ = inr refl
failure_or m s (event.Define d t u) (reply.Defined v first count) = inr refl
failure_or m s (event.Define d t u) (reply.Defunct v) = inr refl
failure_or m s (event.Define d t u) _ = inr refl
failure_or m s (event.Generate g) (reply.Defined v first count) = inr refl
failure_or m s (event.Generate g) reply.TooMany = inr refl
failure_or m s (event.Generate g) (reply.Duplicate name i) = inr refl
failure_or m s (event.Generate g) (reply.Defunct v) = inr refl
failure_or m s (event.Generate g) _ = inr refl
failure_or m s (event.Ask order wanted lev w) (reply.Done q) = inr refl
failure_or m s (event.Ask order wanted lev w) (reply.Pending q) = inr refl
failure_or m s (event.Ask order wanted lev w) (reply.Defunct v) = inr refl
failure_or m s (event.Ask order wanted lev w) _ = inr refl
failure_or m s (event.Collect q) (reply.Defunct v) = inr refl
failure_or m s (event.Collect q) _ = inr refl
failure_or m s (event.Place u shape) (reply.Placed base) = inr refl
failure_or m s (event.Place u shape) (reply.Defunct v) = inr refl
failure_or m s (event.Place u shape) _ = inr refl
failure_or m s (event.Resolve u) reply.Resolved = inr refl
failure_or m s (event.Resolve u) (reply.Defunct v) = inr refl
failure_or m s (event.Resolve u) _ = inr refl
failure_or m s (event.Link u) (reply.Done q) = inr refl
failure_or m s (event.Link u) (reply.Pending q) = inr refl
failure_or m s (event.Link u) (reply.Defunct v) = inr refl
failure_or m s (event.Link u) _ = inr refl
failure_or m s (event.Emit u groups) reply.Emitted = inr refl
failure_or m s (event.Emit u groups) (reply.Defunct v) = inr refl
failure_or m s (event.Emit u groups) _ = inr refl
failure_or m s (event.Fail u cause) reply.Failed = inl tt
failure_or m s (event.Fail u cause) (reply.Defunct v) = inr refl
failure_or m s (event.Fail u cause) _ = inr refl
failure_or m s (event.MoveTracker t to) reply.Moved = inr refl
failure_or m s (event.MoveTracker t to) (reply.Defunct v) = inr refl
failure_or m s (event.MoveTracker t to) _ = inr refl
failure_or m s (event.Remove t) reply.Removed = inl tt
failure_or m s (event.Remove t) (reply.Defunct v) = inr refl
failure_or m s (event.Remove t) _ = inr refl
failure_or m s event.Image (reply.Defunct v) = inr refl
failure_or m s event.Image _ = inr refl

pub only_failures_fail : OnlyFailuresFail
only_failures_fail m e i n f = split (failure_or m e.seat.0 e.event e.reply)
  where
    c : Change Meaning
    c = change_of m e.seat.0 e.event e.reply

    split : IsFailure e.event e.reply ⊎ (is_failing c ≡ false) → IsFailure e.event e.reply
    split (inl a) = a
    split (inr b) = absurd (both_ways (failed_at m.rows i) n (change_none c m b i (subst (λ rows. failed_at rows i ≡ true) (settled_rows (changed c m)) f)))
