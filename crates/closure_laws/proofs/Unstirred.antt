-- A change that stirs no instance leaves the queries, and each instance that a query matched, as they
-- were: so it settles none.
use Rattle.std.proofs.Common.{◌≡◌, ℕ, true, false, not, ◌||◌, ◌==◌, map, List, [], ◌∷◌, ◌++◌, length, slice_get, Contains, ◌⊎◌, inl, inr, arith, subst, sym, refl, ap, ap₂, ◌∙◌, Option, Some, None, is_some}
use Rattle.std.specs.Option.{option_map_or}
use Rattle.std.proofs.lemmas.Bool.{both_ways, and_parts, and_from, or_cases, or_left, or_right, not-true, false_from_ne_true}
use Rattle.std.proofs.lemmas.List.{length-append}
use Rattle.std.proofs.Math.Seq.{take-append_seam, take-length}
use Rattle.list_laws.proofs.Bools.{and_kept}
use Rattle.orc_ids.specs.declared.ids.InstId.{InstId}
use Rattle.orc_ids.specs.declared.lookup.Level.{Level}
use Rattle.orc_ids.specs.declared.lookup.Level.TheVariants as level
use Rattle.session_model.specs.Lists.{changed_at, numbered, only_if, or_else}
use Rattle.session_model.specs.Change.{change_of, changed, verdicts, defined, spent, is_replaced, unreplaced_row, new_rows, moved_unit, moved_generator, gone_tracker}
use Rattle.session_model.specs.Meaning.{Meaning}
use Rattle.session_model.specs.Plain.{Plain, GenRow, empty, is_unsearched, is_failed, is_emitted, phase_address, phase_deps}
use Rattle.session_model.specs.Query.{at_level, all_at, is_lost, first_lost, is_met}
use Rattle.session_model.specs.Reach.{IsReady, deps_at}
use Rattle.session_model.specs.State.{state}
use Rattle.session_model.specs.declared.change.Change.{Change}
use Rattle.session_model.specs.declared.change.Change.TheVariants.{Nothing, MakeDylib, MakeTracker, SetOrder, Attach, Define, Generate, Spend, Ask, Start, Finish, Place, Resolve, Link, Emit, Fail, Move, Remove, LetGo}
use Rattle.session_model.specs.declared.entry.Entry.{Entry}
use Rattle.session_model.specs.declared.rows.InstRow.{InstRow}
use Rattle.session_model.specs.declared.rows.Query.{Query}
use Rattle.session_model.specs.declared.rows.Verdict.{Verdict}
use Rattle.session_laws.proofs.Declared.{state_from_push, replaced_unsearched, front_some, numbered_some, query_was_asked, test_parts, test_from, test_is, ready_emitted, closed_reached, reaches_self, reaches_dep, ready_from_test, test_from_ready, reached_ready, Guard, chosen, settled_rows, settled_queries}
use Rattle.session_laws.specs.Sound.{IsSound, AllMatched, is_sure, sure_at, searched_at}
use Rattle.closure_laws.proofs.Histories.{OneMore, one_more}
use Rattle.closure_laws.specs.Quiet.{stirs, QuietSettlesNone}

-- each instance that was searched is as it was
abbrev LeavesSearched : List InstRow → List InstRow → Type 0
LeavesSearched rows new = (i : ℕ) → searched_at rows i ≡ true → slice_get new i ≡ slice_get rows i

-- How a searched instance stands

sure_searched : (rows : List InstRow) (i : ℕ) → sure_at rows i ≡ true → searched_at rows i ≡ true
sure_searched rows i e = let p = test_parts is_sure rows i e in
    test_from (λ (r : InstRow). not (is_unsearched r.phase)) rows i p.0 p.1 (and_parts (not (is_unsearched p.0.phase)) (not (is_failed p.0.phase)) p.2).0

-- what it reaches was searched too
ready_before : (rows new : List InstRow) → ((i j : ℕ) → Contains (deps_at rows i) j → sure_at rows j ≡ true) → LeavesSearched rows new → (i : ℕ) → searched_at rows i ≡ true → IsReady new i → IsReady rows i
ready_before rows new deps same i searched ready = record {
  each = λ j r. let p = closed_reached rows (λ k. (searched_at rows k ≡ true) × IsReady new k) closed i j (searched, ready) r in
      ap (λ o. option_map_or (λ (y : InstRow). is_emitted y.phase) o false) (sym (same j p.0)) ∙ ready_emitted new j p.1;
}
  where
    closed : (k l : ℕ) → (searched_at rows k ≡ true) × IsReady new k → Contains (deps_at rows k) l → (searched_at rows l ≡ true) × IsReady new l
    closed k l p c = (
      sure_searched rows l (deps k l c),
      reached_ready new k l p.1 (reaches_dep new k l l
          (subst (λ ds. Contains ds l) (ap (λ o. option_map_or (λ (y : InstRow). phase_deps y.phase) o []) (sym (same k p.0))) c) (reaches_self new l)),
    )

level_before : (m : Plain) (new : List InstRow) → IsSound m → LeavesSearched m.rows new → (lev : Level) (i : ℕ) → searched_at m.rows i ≡ true → at_level new lev i ≡ true → at_level m.rows lev i ≡ true
level_before m new s same level.Resolved i searched e = ap (λ o. is_some (option_map_or (λ (y : InstRow). phase_address y.phase) o None)) (sym (same i searched)) ∙ e
level_before m new s same level.Ready i searched e = test_from_ready m.rows i (ready_before m.rows new s.deps same i searched (ready_from_test new i e))

lost_same : (rows new : List InstRow) → LeavesSearched rows new → (i : ℕ) → searched_at rows i ≡ true → is_lost new i ≡ is_lost rows i
lost_same rows new same i searched = ap (λ o. option_map_or (λ (y : InstRow). is_failed y.phase) o false || not (option_map_or (λ (y : InstRow). y.present) o false)) (same i searched)

-- How a query stands

abbrev AllSearched : List InstRow → List (Option InstId) → Type 0
AllSearched rows os = AllMatched (λ i. searched_at rows i ≡ true) os

all_before : (m : Plain) (new : List InstRow) → IsSound m → LeavesSearched m.rows new → (lev : Level) (os : List (Option InstId)) → AllSearched m.rows os → all_at new lev os ≡ true → all_at m.rows lev os ≡ true
all_before m new s same lev [] a e = refl
all_before m new s same lev (None ∷ os) a e = all_before m new s same lev os a e
all_before m new s same lev (Some i ∷ os) a e =
    let p = and_parts (at_level new lev i.0) (all_at new lev os) e in
    and_from (at_level m.rows lev i.0) (all_at m.rows lev os) (level_before m new s same lev i.0 a.0 p.0) (all_before m new s same lev os a.1 p.1)

first_lost_same : (rows new : List InstRow) → LeavesSearched rows new → (os : List (Option InstId)) → AllSearched rows os → first_lost new os ≡ first_lost rows os
first_lost_same rows new same [] a = refl
first_lost_same rows new same (None ∷ os) a = first_lost_same rows new same os a
first_lost_same rows new same (Some i ∷ os) a = ap₂ (λ b o. or_else (only_if b i) o) (lost_same rows new same i.0 a.0) (first_lost_same rows new same os a.1)

met_before : (m : Plain) (new : List InstRow) → IsSound m → LeavesSearched m.rows new → (q : Query) → AllSearched m.rows q.matched → is_met new q ≡ true → is_met m.rows q ≡ true
met_before m new s same q a e = split (or_cases (all_at new q.level q.matched) (is_some (first_lost new q.matched)) e)
  where
    split : (all_at new q.level q.matched ≡ true) ⊎ (is_some (first_lost new q.matched) ≡ true) → is_met m.rows q ≡ true
    split (inl all) = or_left (all_at m.rows q.level q.matched) (is_some (first_lost m.rows q.matched)) (all_before m new s same q.level q.matched a all)
    split (inr lost) = or_right (all_at m.rows q.level q.matched) (is_some (first_lost m.rows q.matched)) (ap is_some (sym (first_lost_same m.rows new same q.matched a)) ∙ lost)

-- What a change leaves

-- the searched instances and the queries are as they were
abbrev IsUnstirred : Plain → Plain → Type 0
IsUnstirred m new = LeavesSearched m.rows new.rows × (new.queries ≡ m.queries)

-- only an unsearched instance is replaced
defined_unstirred : (m : Plain) (d t : ℕ) (v : Meaning) → IsUnstirred m (defined d t v (verdicts m.rows d v.offers) m)
defined_unstirred m d t v = (λ i searched. let p = test_parts (λ (r : InstRow). not (is_unsearched r.phase)) m.rows i searched in at i p.0 p.1 p.2, refl)
  where
    vs : List Verdict
    vs = verdicts m.rows d v.offers

    kept : (i : ℕ) (r : InstRow) → slice_get m.rows i ≡ Some r → not (is_unsearched r.phase) ≡ true → is_replaced vs i ≡ false
    kept i r e searched = false_from_ne_true (is_replaced vs i) (λ is.
        both_ways (is_unsearched r.phase) (not-true (is_unsearched r.phase) searched) (sym (test_is (λ (y : InstRow). is_unsearched y.phase) m.rows i r e) ∙ replaced_unsearched m.rows d v.offers i is))

    at : (i : ℕ) (r : InstRow) → slice_get m.rows i ≡ Some r → not (is_unsearched r.phase) ≡ true → slice_get (defined d t v vs m).rows i ≡ slice_get m.rows i
    at i r e searched = front_some (numbered (unreplaced_row vs) 0 m.rows) (new_rows d (length m.units) 0 v.offers vs) i (unreplaced_row vs i r) (numbered_some (unreplaced_row vs) m.rows i r e)
        ∙ (ap (λ b. Some (record r { present = b })) (and_kept r.present (is_replaced vs i) (kept i r e searched)) ∙ sym e)

generated_unstirred : (m : Plain) (k : ℕ) (o : Option GenRow) → IsUnstirred m (option_map_or (λ x. spent k (defined x.dylib x.tracker x.meaning (option_map_or (λ (y : GenRow). verdicts m.rows y.dylib y.meaning.offers) o []) m)) o m)
generated_unstirred m k None = (λ i searched. refl, refl)
generated_unstirred m k (Some x) = defined_unstirred m x.dylib x.tracker x.meaning

change_unstirred : (m : Plain) (s : ℕ) (c : Change Meaning) → Guard m s c → stirs c ≡ false → IsUnstirred m (changed c m)
change_unstirred m s Nothing g e = (λ i searched. refl, refl)
change_unstirred m s (MakeDylib name) g e = (λ i searched. refl, refl)
change_unstirred m s (MakeTracker d) g e = (λ i searched. refl, refl)
change_unstirred m s (SetOrder d order) g e = (λ i searched. refl, refl)
change_unstirred m s (Attach d t u) g e = (λ i searched. refl, refl)
change_unstirred m s (Define d t u found) g e = subst (λ vs. IsUnstirred m (defined d.0 t.0 u vs m)) (sym g) (defined_unstirred m d.0 t.0 u)
change_unstirred m s (Generate k found) g e = subst (λ vs. IsUnstirred m (changed (Generate k vs) m)) (sym g) (generated_unstirred m k.0 (slice_get m.generators k.0))
change_unstirred m s (Spend k) g e = (λ i searched. refl, refl)
change_unstirred m s (Ask found lev n) g e = absurd (both_ways true e refl)
change_unstirred m s (Start t u) g e = (λ i searched. refl, refl)
change_unstirred m s (Finish t u how) g e = (λ i searched. refl, refl)
change_unstirred m s (Place u base) g e = (λ i searched. refl, refl)
change_unstirred m s (Resolve u) g e = absurd (both_ways true e refl)
change_unstirred m s (Link u found) g e = absurd (both_ways true e refl)
change_unstirred m s (Emit u groups) g e = absurd (both_ways true e refl)
change_unstirred m s (Fail u) g e = absurd (both_ways true e refl)
change_unstirred m s (Move t to) g e = chosen (IsUnstirred m) (t.0 == to.0) m (record m { units = map (moved_unit t.0 to.0) m.units; generators = map (moved_generator t.0 to.0) m.generators; trackers = changed_at t.0 gone_tracker m.trackers })
    (λ b. (λ i searched. refl, refl)) (λ b. (λ i searched. refl, refl))
change_unstirred m s (Remove t) g e = absurd (both_ways true e refl)
change_unstirred m s (LetGo t u) g e = (λ i searched. refl, refl)

-- Along a history

pub quiet_settles_none : QuietSettlesNone
quiet_settles_none jmax h e l quiet k p = both_ways (is_met m.rows q) before (met_before m (changed c m).rows one.sound unstirred.0 q (one.sound.searched k q old) met)
  where
    m : Plain
    m = state h

    c : Change Meaning
    c = change_of m e.seat.0 e.event e.reply

    q : Query
    q = p.0

    full : List (Entry Meaning)
    full = h ++ e ∷ []

    one : OneMore jmax h e
    one = one_more jmax h e l

    unstirred : IsUnstirred m (changed c m)
    unstirred = change_unstirred m e.seat.0 c one.guard quiet

    old : slice_get m.queries k ≡ Some q
    old = ap (λ qs. slice_get qs k) (sym (ap (λ n. n.queries) (state_from_push empty h e) ∙ (settled_queries (changed c m) ∙ unstirred.1))) ∙ p.1

    met : is_met (changed c m).rows q ≡ true
    met = ap (λ rows. is_met rows q) (sym (ap (λ g. (state g).rows) (take-length full) ∙ (ap (λ n. n.rows) (state_from_push empty h e) ∙ settled_rows (changed c m)))) ∙ p.2.met

    before : is_met m.rows q ≡ false
    before = ap (λ g. is_met (state g).rows q) (sym (take-append_seam h (e ∷ []))) ∙ p.2.first (length h) (query_was_asked h k q old).1 (omega (arith, length-append h (e ∷ [])))
