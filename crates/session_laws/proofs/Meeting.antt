-- Both ends of a query never come first together.
use Rattle.session_model.specs.Change.{verdicts, unreplaced_row, claimed_row, resolved_unit, resolved_row, moved_unit, moved_generator, gone_tracker}
use Rattle.std.proofs.Common.{◌≡◌, ℕ, zero, suc, ◌+◌, Bool, true, false, not, ◌&&◌, ◌==◌, map, List, [], ◌∷◌, ◌++◌, length, slice_get, ◌⊎◌, inl, inr, subst, sym, refl, ap, ◌∙◌, Option, Some, None, option_map, is_some, unwrap_or}
use Rattle.std.specs.Bool.{if◌then◌else◌}
use Rattle.std.specs.Option.{option_map_or}
use Rattle.std.proofs.lemmas.Bool.{both_ways, and_parts, and_from, not-true, not-false, not_from_false, not_from_true, false_from_ne_true}
use Rattle.std.proofs.lemmas.Option.{none-some, same_Some}
use Rattle.orc_ids.specs.declared.ids.InstId.{InstId}
use Rattle.session_model.specs.Lists.{changed_at, numbered}
use Rattle.session_model.specs.Plain.{Plain, UnitRow, GenRow, is_unsearched, is_failed, is_emitted, is_owned, failed_at, present_at}
use Rattle.session_model.specs.Reach.{is_hit}
use Rattle.session_model.specs.declared.rows.InstRow.{InstRow}
use Rattle.session_model.specs.declared.rows.Phase.TheVariants as phase
use Rattle.orc_ids.specs.declared.lookup.Level.TheVariants as level
use Rattle.std.proofs.Common.{arith, ◌<◌}
use Rattle.session_model.specs.Lists.{only_if, or_else}
use Rattle.session_model.specs.Plain.{phase_address}
use Rattle.session_model.specs.Change.{deps_in, hits_failed, tracker_roots, is_unit_of, claimed}
use Rattle.session_model.specs.Plain.{is_owned_at}
use Rattle.session_laws.proofs.Elements.{map_parts, same_element, numbered_at, mapped_at, mapped_some}
use Rattle.session_laws.proofs.Facts.{test_parts, test_from, test_is, ready_emitted, matched_more}
use Rattle.session_laws.proofs.Paths.{ready_from_test, test_from_ready}
use Rattle.session_laws.proofs.Settling.{chosen}
use Rattle.session_laws.specs.Sound.{IsSound, searched_at, AllMatched}
use Rattle.std.proofs.lemmas.Bool.{or_parts}
use Rattle.std.proofs.lemmas.Bool.{cases_lt}
use Rattle.orc_ids.specs.declared.lookup.Level.{Level}
use Rattle.session_model.specs.Meaning.{Meaning}
use Rattle.session_model.specs.Query.{is_met}
use Rattle.session_model.specs.Change.{is_replaced, new_rows, defined, all_claimed}
use Rattle.session_laws.proofs.Elements.{pushed_last, front_some, numbered_some}
use Rattle.session_model.specs.Query.{all_at}
use Rattle.session_model.specs.Change.{change_of, changed}
use Rattle.session_model.specs.declared.change.Change.{Change}
use Rattle.session_model.specs.declared.change.Change.TheVariants.{Nothing, MakeDylib, MakeTracker, SetOrder, Attach, Define, Generate, Spend, Ask, Start, Finish, Place, Resolve, Link, Emit, Fail, Move, Remove, LetGo}
use Rattle.session_model.specs.declared.entry.Entry.{Entry}
use Rattle.session_laws.proofs.Defining.{IsHere}
use Rattle.session_laws.proofs.Replies.{GoodMatches, Guard}
use Rattle.session_model.specs.State.{after, state}
use Rattle.session_model.specs.History.{IsLegal}
use Rattle.session_model.specs.Change.{emitted, failed, removed, spent}
use Rattle.session_laws.proofs.Guards.{guard_of}
use Rattle.session_laws.proofs.Defining.{claims_keep}
use Rattle.session_laws.proofs.Invariant.{legal_is_sound, good_here}
use Rattle.session_laws.proofs.Settling.{settled_rows, settled_queries}
use Rattle.session_laws.proofs.Elements.{numbered_some}
use Rattle.session_laws.specs.Readiness.{phase_at}
use Rattle.std.proofs.Common.{take, ◌≤◌, ◌-◌}
use Rattle.std.proofs.lemmas.List.{take_all, length-append, length-take-le}
use Rattle.std.proofs.lemmas.Bool.{or_from}
use Rattle.session_laws.proofs.Defining.{replaced_unsearched}
use Rattle.session_model.specs.Plain.{phase_address, address_at}
use Rattle.session_model.specs.Query.{at_level, is_lost, first_lost}
use Rattle.session_laws.proofs.Readying.{KeepsReady, stays_ready, keeps_row}
use Rattle.session_laws.specs.Queries.{OneEndAtATime}
use Rattle.session_laws.proofs.Ending.{after_query, query_cases, query_was_asked, entries_are, StepAt, step_at, front_legal, all_claimed_queries}
use Rattle.session_model.specs.declared.rows.Query.{Query}

-- No instance that was searched is lost anew; or no instance comes to a level.

abbrev pub KeepsUnlost : List InstRow → List InstRow → Type 0
KeepsUnlost rows new = (i : ℕ) → searched_at rows i ≡ true → is_lost rows i ≡ false → is_lost new i ≡ false

abbrev pub RaisesNone : List InstRow → List InstRow → Type 0
RaisesNone rows new = (lev : Level) (i : ℕ) → at_level new lev i ≡ true → at_level rows lev i ≡ true

pub unlost_parts : (rows : List InstRow) (i : ℕ) → is_lost rows i ≡ false → (r : InstRow) × (slice_get rows i ≡ Some r) × (r.present ≡ true) × (is_failed r.phase ≡ false)
unlost_parts rows i e = let p = or_parts (failed_at rows i) (not (present_at rows i)) e in
    let r = test_parts (λ (r : InstRow). r.present) rows i (not-false (present_at rows i) p.1) in
    (r.0, r.1, r.2, sym (test_is (λ (r : InstRow). is_failed r.phase) rows i r.0 r.1) ∙ p.0)

pub unlost_from : (rows : List InstRow) (i : ℕ) (r : InstRow) → slice_get rows i ≡ Some r → r.present ≡ true → is_failed r.phase ≡ false → is_lost rows i ≡ false
unlost_from rows i r e p f = or_from (failed_at rows i) (not (present_at rows i)) (test_is (λ (x : InstRow). is_failed x.phase) rows i r e ∙ f) (not_from_true (present_at rows i) (test_from (λ (x : InstRow). x.present) rows i r e p))

unlost_mapped : (rows new : List InstRow) (g : ℕ → InstRow → InstRow) → ((i : ℕ) (r : InstRow) → slice_get rows i ≡ Some r → slice_get new i ≡ Some (g i r)) →
    ((i : ℕ) (r : InstRow) → slice_get rows i ≡ Some r → not (is_unsearched r.phase) ≡ true → r.present ≡ true → is_failed r.phase ≡ false → ((g i r).present ≡ true) × (is_failed (g i r).phase ≡ false)) → KeepsUnlost rows new
unlost_mapped rows new g at keeps i searched e = let p = unlost_parts rows i e in
    let q = test_parts (λ (r : InstRow). not (is_unsearched r.phase)) rows i searched in
    let k = keeps i p.0 p.1 (subst (λ (r : InstRow). not (is_unsearched r.phase) ≡ true) (same_element (slice_get rows i) q.0 p.0 q.1 p.1) q.2) p.2 p.3 in
    unlost_from new i (g i p.0) (at i p.0 p.1) k.0 k.1

unlost_same : (rows : List InstRow) → KeepsUnlost rows rows
unlost_same rows i s e = e

claim_unlost : (u : ℕ) (m : Plain) (i : ℕ) → is_lost m.rows i ≡ false → is_lost (claimed u m).rows i ≡ false
claim_unlost u m i e = let p = unlost_parts m.rows i e in
    unlost_from (claimed u m).rows i (claimed_row u p.0)
    (mapped_some (claimed_row u) m.rows i p.0 p.1) p.2
    (chosen (λ f. is_failed f ≡ false) (is_owned u p.0 && is_unsearched p.0.phase) phase.Claimed p.0.phase (λ b. refl) (λ b. p.3))

claims_unlost : (m : Plain) (os : List (Option InstId)) → AllMatched (IsHere m.rows) os → (i : ℕ) → is_lost m.rows i ≡ false → is_lost (all_claimed os m).rows i ≡ false
claims_unlost m os here = claims_keep (λ n. (i : ℕ) → is_lost m.rows i ≡ false → is_lost n.rows i ≡ false) (λ k r n p e present unsearched i f. claim_unlost r.unit.0 n i (p i f)) os m here (λ i f. f)

address_parts : (rows : List InstRow) (i : ℕ) → is_some (address_at rows i) ≡ true → (r : InstRow) × (slice_get rows i ≡ Some r) × (is_some (phase_address r.phase) ≡ true)
address_parts rows i = split (slice_get rows i) refl
  where
    split : (o : Option InstRow) → slice_get rows i ≡ o → is_some (option_map_or (λ (r : InstRow). phase_address r.phase) o None) ≡ true → (r : InstRow) × (slice_get rows i ≡ Some r) × (is_some (phase_address r.phase) ≡ true)
    split None e h = absurd (both_ways false refl h)
    split (Some r) e h = (r, e, h)

-- where instances only fail, none comes to a level
hits_raise_none : (rows new : List InstRow) (g : ℕ → InstRow → InstRow) (roots : ℕ → Bool) → ((i : ℕ) → slice_get new i ≡ option_map (g i) (slice_get rows i)) →
    ((i : ℕ) (r : InstRow) → (g i r).phase ≡ (if is_hit rows roots i then phase.Failed else r.phase)) → RaisesNone rows new
hits_raise_none rows new g roots at phase_is level.Resolved i e = found (address_parts new i e)
  where
    found : (r : InstRow) × (slice_get new i ≡ Some r) × (is_some (phase_address r.phase) ≡ true) → is_some (address_at rows i) ≡ true
    found p = let q = map_parts (g i) (slice_get rows i) p.0 (sym (at i) ∙ p.1) in
        ap (λ o. is_some (option_map_or (λ (r : InstRow). phase_address r.phase) o None)) q.1 ∙
        chosen (λ f. is_some (phase_address f) ≡ true → is_some (phase_address q.0.phase) ≡ true) (is_hit rows roots i) phase.Failed q.0.phase
        (λ b h. absurd (both_ways false refl h)) (λ b h. h) (subst (λ f. is_some (phase_address f) ≡ true) (ap (λ (y : InstRow). y.phase) q.2 ∙ phase_is i q.0) p.2)
hits_raise_none rows new g roots at phase_is level.Ready i e = test_from_ready rows i (stays_ready new rows keeps i (ready_from_test new i e))
  where
    keeps : KeepsReady new rows
    keeps k h = found (test_parts (λ (r : InstRow). is_emitted r.phase) new k (ready_emitted new k h))
      where
        found : (r : InstRow) × (slice_get new k ≡ Some r) × (is_emitted r.phase ≡ true) → phase_at rows k ≡ phase_at new k
        found p = let q = map_parts (g k) (slice_get rows k) p.0 (sym (at k) ∙ p.1) in
            keeps_row new rows k p.0 q.0 p.1 q.1 (sym (ap (λ (y : InstRow). y.phase) q.2 ∙ (phase_is k q.0 ∙
            chosen (λ f. is_emitted f ≡ true → f ≡ q.0.phase) (is_hit rows roots k) phase.Failed q.0.phase (λ b t. absurd (both_ways false refl t)) (λ b t. refl)
            (subst (λ f. is_emitted f ≡ true) (ap (λ (y : InstRow). y.phase) q.2 ∙ phase_is k q.0) p.2))))

-- a definition replaces unsearched instances alone
defined_unlost : (m : Plain) (d t : ℕ) (v : Meaning) → KeepsUnlost m.rows (defined d t v (verdicts m.rows d v.offers) m).rows
defined_unlost m d t v = unlost_mapped m.rows (defined d t v (verdicts m.rows d v.offers) m).rows (unreplaced_row (verdicts m.rows d v.offers))
    (λ i r e. front_some (numbered (unreplaced_row (verdicts m.rows d v.offers)) 0 m.rows) (new_rows d (length m.units) 0 v.offers (verdicts m.rows d v.offers)) i (unreplaced_row (verdicts m.rows d v.offers) i r) (numbered_some (unreplaced_row (verdicts m.rows d v.offers)) m.rows i r e))
    (λ i r e t p f. (
      and_from r.present (not (is_replaced (verdicts m.rows d v.offers) i)) p (not_from_false (is_replaced (verdicts m.rows d v.offers) i) (false_from_ne_true (is_replaced (verdicts m.rows d v.offers) i) (λ b.
          both_ways (is_unsearched r.phase) (not-true (is_unsearched r.phase) t) (sym (test_is (λ (y : InstRow). is_unsearched y.phase) m.rows i r e) ∙ replaced_unsearched m.rows d v.offers i b)))),
      f,
    ))

pub losing : (m : Plain) (s : ℕ) (c : Change Meaning) → IsSound m → Guard m s c → KeepsUnlost m.rows (changed c m).rows ⊎ RaisesNone m.rows (changed c m).rows
losing m s Nothing h g = inl (unlost_same m.rows)
losing m s (MakeDylib name) h g = inl (unlost_same m.rows)
losing m s (MakeTracker d) h g = inl (unlost_same m.rows)
losing m s (SetOrder d order) h g = inl (unlost_same m.rows)
losing m s (Attach d t u) h g = inl (unlost_same m.rows)
losing m s (Define d t u found) h g = inl (subst (λ vs. KeepsUnlost m.rows (defined d.0 t.0 u vs m).rows) (sym g) (defined_unlost m d.0 t.0 u))
losing m s (Generate k found) h g = inl (subst (λ vs. KeepsUnlost m.rows (changed (Generate k vs) m).rows) (sym g) (split (slice_get m.generators k.0)))
  where
    split : (o : Option GenRow) → KeepsUnlost m.rows (option_map_or (λ x. spent k.0 (defined x.dylib x.tracker x.meaning (option_map_or (λ (y : GenRow). verdicts m.rows y.dylib y.meaning.offers) o []) m)) o m).rows
    split None = unlost_same m.rows
    split (Some x) = defined_unlost m x.dylib x.tracker x.meaning
losing m s (Spend k) h g = inl (unlost_same m.rows)
losing m s (Ask found lev n) h g = inl (λ i t. claims_unlost m found (good_here m found g) i)
losing m s (Start t u) h g = inl (unlost_same m.rows)
losing m s (Finish t u how) h g = inl (unlost_same m.rows)
losing m s (Place u base) h g = inl (unlost_same m.rows)
losing m s (Resolve u) h g = inl (subst (λ o. KeepsUnlost m.rows (option_map_or (λ (x : UnitRow). record m { rows = map (resolved_row u.0 (resolved_unit x)) m.rows; units = changed_at u.0 resolved_unit m.units }) o m).rows) (sym g.1)
    (unlost_mapped m.rows (map (resolved_row u.0 (resolved_unit g.0)) m.rows) (λ i r. resolved_row u.0 (resolved_unit g.0) r)
    (λ i r e. mapped_some (resolved_row u.0 (resolved_unit g.0)) m.rows i r e)
    (λ i r e t p f. (p, chosen (λ q. is_failed q ≡ false) (is_owned u.0 r) (phase.Resolved (g.0.meaning.address r.offer (unwrap_or (resolved_unit g.0).base 0))) r.phase (λ b. refl) (λ b. f)))))
losing m s (Link u found) h g = inl (λ i t. claims_unlost m found (good_here m found g.3.3) i)
losing m s (Emit u groups) h g = inl (unlost_mapped m.rows (emitted u.0 groups m).rows (λ i r. record r { phase = if is_owned u.0 r then phase.Emitted (unwrap_or (phase_address r.phase) 0) (deps_in groups i) else r.phase })
    (λ i r e. numbered_some (λ i (r : InstRow). record r { phase = if is_owned u.0 r then phase.Emitted (unwrap_or (phase_address r.phase) 0) (deps_in groups i) else r.phase }) m.rows i r e)
    (λ i r e t p f. (p, chosen (λ q. is_failed q ≡ false) (is_owned u.0 r) (phase.Emitted (unwrap_or (phase_address r.phase) 0) (deps_in groups i)) r.phase (λ b. refl) (λ b. f))))
losing m s (Fail u) h g = inr (hits_raise_none m.rows (failed u.0 m).rows (λ i r. record r { phase = if is_hit m.rows (is_owned_at u.0 m.rows) i then phase.Failed else r.phase }) (is_owned_at u.0 m.rows)
    (numbered_at (λ i (r : InstRow). record r { phase = if is_hit m.rows (is_owned_at u.0 m.rows) i then phase.Failed else r.phase }) m.rows) (λ i r. refl))
losing m s (Move t to) h g = inl (chosen (λ n. KeepsUnlost m.rows n.rows) (t.0 == to.0) m (record m { units = map (moved_unit t.0 to.0) m.units; generators = map (moved_generator t.0 to.0) m.generators; trackers = changed_at t.0 gone_tracker m.trackers }) (λ b. unlost_same m.rows) (λ b. unlost_same m.rows))
losing m s (Remove t) h g = inr (hits_raise_none m.rows (removed t.0 m).rows hitting (tracker_roots m t.0) at (λ i r. refl))
  where
    hit : ℕ → InstRow → InstRow
    hit i r = record r { phase = if is_hit m.rows (tracker_roots m t.0) i then phase.Failed else r.phase }

    going : InstRow → InstRow
    going r = record r { present = r.present && not (is_unit_of m t.0 r.unit.0) }

    hitting : ℕ → InstRow → InstRow
    hitting i r = going (hit i r)

    at : (i : ℕ) → slice_get (removed t.0 m).rows i ≡ option_map (hitting i) (slice_get m.rows i)
    at i = mapped_at going (hits_failed (tracker_roots m t.0) m.rows) i ∙ (ap (option_map going) (numbered_at hit m.rows i) ∙ twice (slice_get m.rows i))
      where
        twice : (o : Option InstRow) → option_map going (option_map (hit i) o) ≡ option_map (hitting i) o
        twice None = refl
        twice (Some r) = refl
losing m s (LetGo t u) h g = inl (unlost_same m.rows)

-- Matched lists

all_at_more : (rows new : List InstRow) (lev : Level) → RaisesNone rows new → (os : List (Option InstId)) → all_at new lev os ≡ true → all_at rows lev os ≡ true
all_at_more rows new lev f [] e = e
all_at_more rows new lev f (None ∷ os) e = all_at_more rows new lev f os e
all_at_more rows new lev f (Some i ∷ os) e = let p = and_parts (at_level new lev i.0) (all_at new lev os) e in
    and_from (at_level rows lev i.0) (all_at rows lev os) (f lev i.0 p.0) (all_at_more rows new lev f os p.1)

abbrev pub NoneLost : List InstRow → List (Option InstId) → Type 0
NoneLost rows os = AllMatched (λ i. is_lost rows i ≡ false) os

pub first_lost_none : (rows : List InstRow) (os : List (Option InstId)) → NoneLost rows os → first_lost rows os ≡ None
first_lost_none rows [] a = refl
first_lost_none rows (None ∷ os) a = first_lost_none rows os a
first_lost_none rows (Some i ∷ os) a = ap (λ b. or_else (only_if b i) (first_lost rows os)) a.0 ∙ first_lost_none rows os a.1

pub none_lost : (rows : List InstRow) (os : List (Option InstId)) → first_lost rows os ≡ None → NoneLost rows os
none_lost rows [] e = tt
none_lost rows (None ∷ os) e = none_lost rows os e
none_lost rows (Some i ∷ os) e = split (is_lost rows i.0) refl e (none_lost rows os)
  where
    split : (b : Bool) → is_lost rows i.0 ≡ b → or_else (only_if b i) (first_lost rows os) ≡ None → (first_lost rows os ≡ None → NoneLost rows os) → NoneLost rows (Some i ∷ os)
    split true l h rest = absurd (none-some i (sym h))
    split false l h rest = (l, rest h)

pub none_some : {X : Type 0} (o : Option X) → is_some o ≡ false → o ≡ None
none_some None e = refl
none_some (Some x) e = absurd (both_ways true e refl)

matched_both : (P Q : ℕ → Type 0) (os : List (Option InstId)) → AllMatched P os → AllMatched Q os → AllMatched (λ i. P i × Q i) os
matched_both P Q [] a b = tt
matched_both P Q (None ∷ os) a b = matched_both P Q os a b
matched_both P Q (Some i ∷ os) a b = ((a.0, b.0), matched_both P Q os a.1 b.1)

-- Just asked

good_unlost : (m : Plain) (i : ℕ) → IsHere m.rows i × (failed_at m.rows i ≡ false) → is_lost m.rows i ≡ false
good_unlost m i p = or_from (failed_at m.rows i) (not (present_at m.rows i)) p.1 (not_from_true (present_at m.rows i) p.0)

asked_unlost : (m : Plain) (os : List (Option InstId)) → GoodMatches m os → NoneLost (all_claimed os m).rows os
asked_unlost m os g = matched_more (λ i. IsHere m.rows i × (failed_at m.rows i ≡ false)) (λ i. is_lost (all_claimed os m).rows i ≡ false) (λ i p. claims_unlost m os (good_here m os g) i (good_unlost m i p)) os g

not_longer : {X : Type 0} (P : Type 0) (xs : List X) (x : X) → xs ≡ xs ++ x ∷ [] → P
not_longer P xs x e = absurd (omega (arith, ap length e, length-append xs (x ∷ [])))

lodged_last : (m : Plain) (os : List (Option InstId)) (p q : Query) → (all_claimed os m).queries ++ p ∷ [] ≡ m.queries ++ q ∷ [] → p ≡ q
lodged_last m os p q e = same_Some p q (sym (pushed_last m.queries p) ∙ (ap (λ l. slice_get l (length m.queries)) (ap (λ l. l ++ p ∷ []) (sym (all_claimed_queries os m)) ∙ e) ∙ pushed_last m.queries q))

pub fresh_unlost : (m : Plain) (s : ℕ) (c : Change Meaning) → Guard m s c → (q : Query) → (changed c m).queries ≡ m.queries ++ q ∷ [] → NoneLost (changed c m).rows q.matched
fresh_unlost m s Nothing g q e = not_longer (NoneLost (changed Nothing m).rows q.matched) m.queries q e
fresh_unlost m s (MakeDylib name) g q e = not_longer (NoneLost m.rows q.matched) m.queries q e
fresh_unlost m s (MakeTracker d) g q e = not_longer (NoneLost m.rows q.matched) m.queries q e
fresh_unlost m s (SetOrder d order) g q e = not_longer (NoneLost m.rows q.matched) m.queries q e
fresh_unlost m s (Attach d t u) g q e = not_longer (NoneLost m.rows q.matched) m.queries q e
fresh_unlost m s (Define d t u found) g q e = not_longer (NoneLost (changed (Define d t u found) m).rows q.matched) m.queries q e
fresh_unlost m s (Generate k found) g q e = split (slice_get m.generators k.0) e
  where
    split : (o : Option GenRow) → (option_map_or (λ x. spent k.0 (defined x.dylib x.tracker x.meaning found m)) o m).queries ≡ m.queries ++ q ∷ [] → NoneLost (option_map_or (λ x. spent k.0 (defined x.dylib x.tracker x.meaning found m)) o m).rows q.matched
    split None e = not_longer (NoneLost m.rows q.matched) m.queries q e
    split (Some x) e = not_longer (NoneLost (defined x.dylib x.tracker x.meaning found m).rows q.matched) m.queries q e
fresh_unlost m s (Spend k) g q e = not_longer (NoneLost m.rows q.matched) m.queries q e
fresh_unlost m s (Ask found lev n) g q e = subst (λ (r : Query). NoneLost (all_claimed found m).rows r.matched)
    (lodged_last m found (record { asked = m.entries + 1; matched = found; level = lev; unit = None; note = n }) q e) (asked_unlost m found g)
fresh_unlost m s (Start t u) g q e = not_longer (NoneLost m.rows q.matched) m.queries q e
fresh_unlost m s (Finish t u how) g q e = not_longer (NoneLost m.rows q.matched) m.queries q e
fresh_unlost m s (Place u base) g q e = not_longer (NoneLost m.rows q.matched) m.queries q e
fresh_unlost m s (Resolve u) g q e = split (slice_get m.units u.0) e
  where
    split : (o : Option UnitRow) → (option_map_or (λ (x : UnitRow). record m { rows = map (resolved_row u.0 (resolved_unit x)) m.rows; units = changed_at u.0 resolved_unit m.units }) o m).queries ≡ m.queries ++ q ∷ [] → NoneLost (option_map_or (λ (x : UnitRow). record m { rows = map (resolved_row u.0 (resolved_unit x)) m.rows; units = changed_at u.0 resolved_unit m.units }) o m).rows q.matched
    split None e = not_longer (NoneLost m.rows q.matched) m.queries q e
    split (Some x) e = not_longer (NoneLost (map (resolved_row u.0 (resolved_unit x)) m.rows) q.matched) m.queries q e
fresh_unlost m s (Link u found) g q e = subst (λ (r : Query). NoneLost (all_claimed found m).rows r.matched)
    (lodged_last m found (record { asked = m.entries + 1; matched = found; level = level.Resolved; unit = Some u.0; note = None }) q e) (asked_unlost m found g.3.3)
fresh_unlost m s (Emit u groups) g q e = not_longer (NoneLost (changed (Emit u groups) m).rows q.matched) m.queries q e
fresh_unlost m s (Fail u) g q e = not_longer (NoneLost (changed (Fail u) m).rows q.matched) m.queries q e
fresh_unlost m s (Move t to) g q e = chosen (λ n. n.queries ≡ m.queries ++ q ∷ [] → NoneLost n.rows q.matched) (t.0 == to.0) m (record m { units = map (moved_unit t.0 to.0) m.units; generators = map (moved_generator t.0 to.0) m.generators; trackers = changed_at t.0 gone_tracker m.trackers })
    (λ b e. not_longer (NoneLost m.rows q.matched) m.queries q e) (λ b e. not_longer (NoneLost m.rows q.matched) m.queries q e) e
fresh_unlost m s (Remove t) g q e = not_longer (NoneLost (changed (Remove t) m).rows q.matched) m.queries q e
fresh_unlost m s (LetGo t u) g q e = not_longer (NoneLost m.rows q.matched) m.queries q e

-- At the entry where a query settles

-- one more entry, of a query that was unmet before it
unmet_step : (m : Plain) (s : ℕ) (c : Change Meaning) (q : Query) → IsSound m → Guard m s c → AllMatched (λ i. searched_at m.rows i ≡ true) q.matched → is_met m.rows q ≡ false →
    all_at (changed c m).rows q.level q.matched ≡ true → first_lost (changed c m).rows q.matched ≡ None
unmet_step m s c q h g searched unmet all = split (losing m s c h g)
  where
    before : (all_at m.rows q.level q.matched ≡ false) × (is_some (first_lost m.rows q.matched) ≡ false)
    before = or_parts (all_at m.rows q.level q.matched) (is_some (first_lost m.rows q.matched)) unmet

    split : KeepsUnlost m.rows (changed c m).rows ⊎ RaisesNone m.rows (changed c m).rows → first_lost (changed c m).rows q.matched ≡ None
    split (inl keeps) = first_lost_none (changed c m).rows q.matched (matched_more (λ i. (searched_at m.rows i ≡ true) × (is_lost m.rows i ≡ false)) (λ i. is_lost (changed c m).rows i ≡ false) (λ i p. keeps i p.0 p.1) q.matched
        (matched_both (λ i. searched_at m.rows i ≡ true) (λ i. is_lost m.rows i ≡ false) q.matched searched (none_lost m.rows q.matched (none_some (first_lost m.rows q.matched) before.1))))
    split (inr raises) = absurd (both_ways (all_at m.rows q.level q.matched) before.0 (all_at_more m.rows (changed c m).rows q.level raises q.matched all))

-- a query of a legal history was there from its own entry on
query_at : (jmax : ℕ) (h : List (Entry Meaning)) (number : ℕ) (q : Query) → IsLegal jmax h → slice_get (state h).queries number ≡ Some q → (d k : ℕ) → k + d ≡ length h → q.asked ≤ k → slice_get (state (take k h)).queries number ≡ Some q
query_at jmax h number q l t zero k e b = ap (λ g. slice_get (state g).queries number) (take_all k h (omega (arith, e))) ∙ t
query_at jmax h number q l t (suc d) k e b = split (query_cases (state (take k h)) (after (state (take k h)) step.entry).queries number q (after_query (state (take k h)) step.entry)
    (ap (λ m. slice_get m.queries number) (sym step.leads) ∙ query_at jmax h number q l t d (k + 1) (omega (arith, e)) (omega (arith, b))))
  where
    step : StepAt jmax h k
    step = step_at jmax h k l (omega (arith, e))

    split : (slice_get (state (take k h)).queries number ≡ Some q) ⊎ ((q.asked ≡ (state (take k h)).entries + 1) × ((after (state (take k h)) step.entry).queries ≡ (state (take k h)).queries ++ q ∷ [])) → slice_get (state (take k h)).queries number ≡ Some q
    split (inl a) = a
    split (inr a) = absurd (omega (arith, a.0, b, entries_are (take k h), length-take-le k h (omega (arith, e))))

pub one_end : OneEndAtATime
one_end jmax h number zero q l t set all = absurd (omega (arith, (query_was_asked h number q t).0, set.from))
one_end jmax h number (suc k) q l t set all = goal
  where
    next : k + 1 ≡ suc k
    next = omega arith

    step : StepAt jmax h k
    step = step_at jmax h k l set.here

    m : Plain
    m = state (take k h)

    c : Change Meaning
    c = change_of m step.entry.seat.0 step.entry.event step.entry.reply

    rows_are : (state (take (suc k) h)).rows ≡ (changed c m).rows
    rows_are = ap (λ n. (state (take n h)).rows) (sym next) ∙ (ap (λ (n : Plain). n.rows) step.leads ∙ settled_rows (changed c m))

    sound : IsSound m
    sound = legal_is_sound jmax (take k h) (front_legal jmax h k l)

    guard : Guard m step.entry.seat.0 c
    guard = guard_of jmax (take k h) m step.entry.seat.0 step.entry.event step.entry.reply step.answers

    all_now : all_at (changed c m).rows q.level q.matched ≡ true
    all_now = subst (λ rows. all_at rows q.level q.matched ≡ true) rows_are all

    before : q.asked ≤ k → first_lost (changed c m).rows q.matched ≡ None
    before b = unmet_step m step.entry.seat.0 c q sound guard (sound.searched number q (query_at jmax h number q l t (length h - k) k (omega (arith, set.here)) b)) (set.first k b (omega arith)) all_now

    there : slice_get (after m step.entry).queries number ≡ Some q
    there = ap (λ n. slice_get n.queries number) (sym step.leads ∙ ap (λ n. state (take n h)) next) ∙ query_at jmax h number q l t (length h - suc k) (suc k) (omega (arith, set.here)) set.from

    now : k < q.asked → first_lost (changed c m).rows q.matched ≡ None
    now b = split (query_cases m (after m step.entry).queries number q (after_query m step.entry) there)
      where
        split : (slice_get m.queries number ≡ Some q) ⊎ ((q.asked ≡ m.entries + 1) × ((after m step.entry).queries ≡ m.queries ++ q ∷ [])) → first_lost (changed c m).rows q.matched ≡ None
        split (inl a) = absurd (omega (arith, b, (query_was_asked (take k h) number q a).1, length-take-le k h (omega (arith, set.here))))
        split (inr a) = first_lost_none (changed c m).rows q.matched (fresh_unlost m step.entry.seat.0 c guard q (sym (settled_queries (changed c m)) ∙ a.1))

    either : (k < q.asked) ⊎ (q.asked ≤ k) → first_lost (changed c m).rows q.matched ≡ None
    either (inl b) = now b
    either (inr b) = before b

    goal : first_lost (state (take (suc k) h)).rows q.matched ≡ None
    goal = ap (λ rows. first_lost rows q.matched) rows_are ∙ either (cases_lt k q.asked)
