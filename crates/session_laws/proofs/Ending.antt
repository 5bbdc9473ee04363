-- Queries along a history, and what each change does to their ends.
use Rattle.session_model.specs.Change.{resolved_unit, resolved_row, moved_unit, moved_generator, gone_tracker}
use Rattle.std.proofs.Common.{◌≡◌, ℕ, zero, suc, ◌+◌, Bool, true, false, ◌==◌, map, List, [], ◌∷◌, ◌++◌, length, drop, slice_get, ◌⊎◌, inl, inr, subst, sym, refl, ap, ◌∙◌, Option, Some, None}
use Rattle.std.specs.Bool.{if◌then◌else◌}
use Rattle.std.specs.Option.{option_map_or}
use Rattle.std.proofs.lemmas.Bool.{both_ways, cases_Bool}
use Rattle.std.proofs.lemmas.Option.{none-some}
use Rattle.orc_ids.specs.declared.ids.InstId.{InstId}
use Rattle.session_model.specs.Lists.{changed_at}
use Rattle.session_model.specs.Plain.{Plain, UnitRow, GenRow, is_unsearched}
use Rattle.session_model.specs.declared.rows.InstRow.{InstRow}
use Rattle.orc_ids.specs.declared.lookup.Level.TheVariants as level
use Rattle.std.proofs.Common.{arith, ◌<◌, not-suc-le-zero, le_of_suc-le-suc}
use Rattle.session_model.specs.Change.{claimed}
use Rattle.session_laws.proofs.Elements.{same_element}
use Rattle.session_laws.proofs.Settling.{chosen}
use Rattle.std.proofs.lemmas.Bool.{cases_lt}
use Rattle.orc_ids.specs.declared.lookup.Level.{Level}
use Rattle.session_model.specs.Meaning.{Meaning}
use Rattle.session_model.specs.Query.{is_met}
use Rattle.session_model.specs.Change.{defined, all_claimed, claimed_for, lodged}
use Rattle.session_laws.proofs.Elements.{pushed_cases, front_some}
use Rattle.session_model.specs.Change.{change_of, changed}
use Rattle.session_model.specs.declared.change.Change.{Change}
use Rattle.session_model.specs.declared.change.Change.TheVariants.{Nothing, MakeDylib, MakeTracker, SetOrder, Attach, Define, Generate, Spend, Ask, Start, Finish, Place, Resolve, Link, Emit, Fail, Move, Remove, LetGo}
use Rattle.session_model.specs.Answer.{Answers}
use Rattle.session_model.specs.declared.entry.Entry.{Entry}
use Rattle.session_model.specs.Plain.{empty}
use Rattle.session_model.specs.State.{after, state, state_from}
use Rattle.session_model.specs.History.{IsLegal}
use Rattle.session_model.specs.Change.{spent}
use Rattle.session_laws.proofs.Along.{state_from_push, prefixes_legal, one_more_legal}
use Rattle.session_laws.proofs.Settling.{settled_queries}
use Rattle.std.proofs.Common.{take, ◌≤◌, le_refl}
use Rattle.std.proofs.lemmas.Bool.{cases_order}
use Rattle.std.proofs.lemmas.List.{take-append-le, length-append}
use Rattle.session_model.specs.Query.{ending}
use Rattle.session_model.specs.State.{SettlesAt, IsOpen, IsEnd}
use Rattle.session_laws.proofs.Readying.{state_from_joined}
use Rattle.session_laws.specs.Queries.{EndIsUnique, EndStays, OpenOrEnded, OpenHasNoEnd, QueryWasAsked}
use Rattle.session_model.specs.declared.rows.Ending.{Ending}
use Rattle.session_model.specs.declared.rows.Query.{Query}

-- Entries and queries

after_entries : (m : Plain) (h : List (Entry Meaning)) → (state_from m h).entries ≡ m.entries + length h
after_entries m [] = omega arith
after_entries m (e ∷ es) = omega (arith, after_entries (after m e) es)

pub entries_are : (h : List (Entry Meaning)) → (state h).entries ≡ length h
entries_are h = omega (arith, after_entries empty h)

claimed_for_queries : (i : InstId) (m : Plain) → (claimed_for i m).queries ≡ m.queries
claimed_for_queries i m = split (slice_get m.rows i.0)
  where
    split : (o : Option InstRow) → (option_map_or (λ (r : InstRow). if is_unsearched r.phase then claimed r.unit.0 m else m) o m).queries ≡ m.queries
    split None = refl
    split (Some r) = chosen (λ n. n.queries ≡ m.queries) (is_unsearched r.phase) (claimed r.unit.0 m) m (λ b. refl) (λ b. refl)

pub all_claimed_queries : (os : List (Option InstId)) (m : Plain) → (all_claimed os m).queries ≡ m.queries
all_claimed_queries [] m = refl
all_claimed_queries (None ∷ os) m = all_claimed_queries os m
all_claimed_queries (Some i ∷ os) m = all_claimed_queries os (claimed_for i m) ∙ claimed_for_queries i m

-- the queries stay, or one more is asked
abbrev pub NewQuery : Plain → List Query → Type 0
NewQuery m qs = (qs ≡ m.queries) ⊎ ((q : Query) × (qs ≡ m.queries ++ q ∷ []) × (q.asked ≡ m.entries + 1))

lodged_query : (m : Plain) (found : List (Option InstId)) (lev : Level) (unit n : Option ℕ) → NewQuery m (lodged found lev unit n m).queries
lodged_query m found lev unit n = inr (record { asked = m.entries + 1; matched = found; level = lev; unit = unit; note = n }, ap (λ qs. qs ++ record { asked = m.entries + 1; matched = found; level = lev; unit = unit; note = n } ∷ []) (all_claimed_queries found m), refl)

pub new_query : (c : Change Meaning) (m : Plain) → NewQuery m (changed c m).queries
new_query Nothing m = inl refl
new_query (MakeDylib name) m = inl refl
new_query (MakeTracker d) m = inl refl
new_query (SetOrder d order) m = inl refl
new_query (Attach d t u) m = inl refl
new_query (Define d t u found) m = inl refl
new_query (Generate k found) m = split (slice_get m.generators k.0)
  where
    split : (o : Option GenRow) → NewQuery m (option_map_or (λ x. spent k.0 (defined x.dylib x.tracker x.meaning found m)) o m).queries
    split None = inl refl
    split (Some x) = inl refl
new_query (Spend k) m = inl refl
new_query (Ask found lev n) m = lodged_query m found lev None n
new_query (Start t u) m = inl refl
new_query (Finish t u how) m = inl refl
new_query (Place u base) m = inl refl
new_query (Resolve u) m = split (slice_get m.units u.0)
  where
    split : (o : Option UnitRow) → NewQuery m (option_map_or (λ (x : UnitRow). record m { rows = map (resolved_row u.0 (resolved_unit x)) m.rows; units = changed_at u.0 resolved_unit m.units }) o m).queries
    split None = inl refl
    split (Some x) = inl refl
new_query (Link u found) m = lodged_query m found level.Resolved (Some u.0) None
new_query (Emit u groups) m = inl refl
new_query (Fail u) m = inl refl
new_query (Move t to) m = chosen (λ n. NewQuery m n.queries) (t.0 == to.0) m (record m { units = map (moved_unit t.0 to.0) m.units; generators = map (moved_generator t.0 to.0) m.generators; trackers = changed_at t.0 gone_tracker m.trackers }) (λ b. inl refl) (λ b. inl refl)
new_query (Remove t) m = inl refl
new_query (LetGo t u) m = inl refl

pub after_query : (m : Plain) (e : Entry Meaning) → NewQuery m (after m e).queries
after_query m e = subst (NewQuery m) (sym (settled_queries (changed (change_of m e.seat.0 e.event e.reply) m))) (new_query (change_of m e.seat.0 e.event e.reply) m)

-- a query stays
pub query_kept : (m : Plain) (qs : List Query) (k : ℕ) (q : Query) → NewQuery m qs → slice_get m.queries k ≡ Some q → slice_get qs k ≡ Some q
query_kept m qs k q (inl e) t = ap (λ l. slice_get l k) e ∙ t
query_kept m qs k q (inr p) t = ap (λ l. slice_get l k) p.1 ∙ front_some m.queries (p.0 ∷ []) k q t

pub query_stays : (m : Plain) (h : List (Entry Meaning)) (k : ℕ) (q : Query) → slice_get m.queries k ≡ Some q → slice_get (state_from m h).queries k ≡ Some q
query_stays m [] k q t = t
query_stays m (e ∷ es) k q t = query_stays (after m e) es k q (query_kept m (after m e).queries k q (after_query m e) t)

-- a query was there before, or it was asked just now
pub query_cases : (m : Plain) (qs : List Query) (k : ℕ) (q : Query) → NewQuery m qs → slice_get qs k ≡ Some q → (slice_get m.queries k ≡ Some q) ⊎ ((q.asked ≡ m.entries + 1) × (qs ≡ m.queries ++ q ∷ []))
query_cases m qs k q (inl e) t = inl (ap (λ l. slice_get l k) (sym e) ∙ t)
query_cases m qs k q (inr p) t = split (pushed_cases m.queries p.0 k q (ap (λ l. slice_get l k) (sym p.1) ∙ t))
  where
    split : (slice_get m.queries k ≡ Some q) ⊎ ((k ≡ length m.queries) × (q ≡ p.0)) → (slice_get m.queries k ≡ Some q) ⊎ ((q.asked ≡ m.entries + 1) × (qs ≡ m.queries ++ q ∷ []))
    split (inl a) = inl a
    split (inr b) = inr (ap (λ (r : Query). r.asked) b.1 ∙ p.2, p.1 ∙ ap (λ r. m.queries ++ r ∷ []) (sym b.1))

abbrev AskedBefore : Plain → Type 0
AskedBefore m = (k : ℕ) (q : Query) → slice_get m.queries k ≡ Some q → (0 < q.asked) × (q.asked ≤ m.entries)

asked_after : (m : Plain) (e : Entry Meaning) → AskedBefore m → AskedBefore (after m e)
asked_after m e a k q t = split (query_cases m (after m e).queries k q (after_query m e) t)
  where
    split : (slice_get m.queries k ≡ Some q) ⊎ ((q.asked ≡ m.entries + 1) × ((after m e).queries ≡ m.queries ++ q ∷ [])) → (0 < q.asked) × (q.asked ≤ m.entries + 1)
    split (inl b) = let p = a k q b in (p.0, (omega (arith, p.1)))
    split (inr b) = ((omega (arith, b.0)), (omega (arith, b.0)))

asked_from : (m : Plain) (h : List (Entry Meaning)) → AskedBefore m → AskedBefore (state_from m h)
asked_from m [] a = a
asked_from m (e ∷ es) a = asked_from (after m e) es (asked_after m e a)

pub query_was_asked : QueryWasAsked
query_was_asked h number q t = let p = asked_from empty h (λ k r f. absurd (none-some r f)) number q t in (p.0, (omega (arith, p.1, entries_are h)))

-- The entry at a number of a history

entry_at : (h : List (Entry Meaning)) (k : ℕ) → k < length h → (e : Entry Meaning) × (take (k + 1) h ≡ take k h ++ e ∷ [])
entry_at [] k b = absurd (not-suc-le-zero b)
entry_at (e ∷ es) zero b = (e, refl)
entry_at (e ∷ es) (suc k) b =
    let p = entry_at es k (le_of_suc-le-suc b) in
    let next : suc k + 1 ≡ suc (k + 1) = omega arith in
    (p.0, ap (λ n. take n (e ∷ es)) next ∙ ap (λ l. e ∷ l) p.1)

pub front_and_rest : (k : ℕ) (h : List (Entry Meaning)) → h ≡ take k h ++ drop k h
front_and_rest zero h = refl
front_and_rest (suc k) [] = refl
front_and_rest (suc k) (e ∷ es) = ap (λ l. e ∷ l) (front_and_rest k es)

pub front_legal : (jmax : ℕ) (h : List (Entry Meaning)) (k : ℕ) → IsLegal jmax h → IsLegal jmax (take k h)
front_legal jmax h k l = (prefixes_legal jmax (take k h) (drop k h)).0 (subst (IsLegal jmax) (front_and_rest k h) l)

-- the step that an entry takes
pub record StepAt (jmax : ℕ) (h : List (Entry Meaning)) (k : ℕ) : Type 0 where
  pub entry : Entry Meaning
  pub answers : Answers jmax (take k h) (state (take k h)) entry.seat.0 entry.event entry.reply
  pub leads : state (take (k + 1) h) ≡ after (state (take k h)) entry

pub step_at : (jmax : ℕ) (h : List (Entry Meaning)) (k : ℕ) → IsLegal jmax h → k < length h → StepAt jmax h k
step_at jmax h k l b = let p = entry_at h k b in
    record {
      entry = p.0;
      answers = (one_more_legal jmax (take k h) p.0).1 (subst (IsLegal jmax) p.1 (front_legal jmax h (k + 1) l));
      leads = ap state p.1 ∙ state_from_push empty (take k h) p.0;
    }

-- Ends

pub end_is_unique : EndIsUnique
end_is_unique h number n k a b x y = both (cases_order n k)
  where
    same : x.query ≡ y.query
    same = same_element (slice_get (state h).queries number) x.query y.query x.there y.there

    settles : SettlesAt h x.query k
    settles = subst (λ q. SettlesAt h q k) (sym same) y.settles

    number_is : (n ≡ k) ⊎ ((n < k) ⊎ (k < n)) → n ≡ k
    number_is (inl e) = e
    number_is (inr (inl lt)) = absurd (both_ways (is_met (state (take n h)).rows x.query) (settles.first n x.settles.from lt) x.settles.met)
    number_is (inr (inr gt)) = absurd (both_ways (is_met (state (take k h)).rows x.query) (x.settles.first k settles.from gt) settles.met)

    both : (n ≡ k) ⊎ ((n < k) ⊎ (k < n)) → (n ≡ k) × (a ≡ b)
    both c = let e = number_is c in (e, sym x.ends ∙ (ap (λ j. ending (state (take j h)).rows x.query) e ∙ (ap (λ q. ending (state (take k h)).rows q) same ∙ y.ends)))

take_front : (h more : List (Entry Meaning)) (n : ℕ) → n ≤ length h → state (take n (h ++ more)) ≡ state (take n h)
take_front h more n b = ap state (take-append-le n h more b)

pub end_stays : EndStays
end_stays h more number n end x = record {
  query = x.query;
  there = ap (λ m. slice_get m.queries number) (state_from_joined empty h more) ∙ query_stays (state h) more number x.query x.there;
  settles = record {
    from = x.settles.from;
    here = omega (arith, x.settles.here, length-append h more);
    met = ap (λ m. is_met m.rows x.query) (take_front h more n x.settles.here) ∙ x.settles.met;
    first = λ k a b. ap (λ m. is_met m.rows x.query) (take_front h more k (omega (arith, b, x.settles.here))) ∙ x.settles.first k a b;
  };
  ends = ap (λ m. ending m.rows x.query) (take_front h more n x.settles.here) ∙ x.ends;
}

-- the first number from a to n at which a test passes, if there is one
abbrev FirstPass : (ℕ → Bool) → ℕ → ℕ → Type 0
FirstPass f a n = ((k : ℕ) → a ≤ k → k ≤ n → f k ≡ false) ⊎ ((k : ℕ) × (a ≤ k) × (k ≤ n) × (f k ≡ true) × ((j : ℕ) → a ≤ j → j < k → f j ≡ false))

first_pass : (f : ℕ → Bool) (a n : ℕ) → FirstPass f a n
first_pass f a zero = split (cases_Bool (f 0)) (cases_lt 0 a)
  where
    split : (f 0 ≡ true) ⊎ (f 0 ≡ false) → (0 < a) ⊎ (a ≤ 0) → FirstPass f a 0
    split (inl t) (inr b) = inr (0, b, le_refl 0, t, λ j c d. absurd (not-suc-le-zero d))
    split (inl t) (inl b) = inl (λ k c d. absurd (omega (arith, b, c, d)))
    split (inr t) c = inl (λ k d e. subst (λ j. f j ≡ false) (omega (arith, e)) t)
first_pass f a (suc n) = split (first_pass f a n) (cases_Bool (f (suc n))) (cases_lt (suc n) a)
  where
    split : FirstPass f a n → (f (suc n) ≡ true) ⊎ (f (suc n) ≡ false) → (suc n < a) ⊎ (a ≤ suc n) → FirstPass f a (suc n)
    split (inr p) c d = inr (p.0, p.1, (omega (arith, p.2)), p.3, p.4)
    split (inl none) (inl t) (inr b) = inr (suc n, b, le_refl (suc n), t, λ j c d. none j c (le_of_suc-le-suc d))
    split (inl none) (inl t) (inl b) = inl (λ k c d. absurd (omega (arith, b, c, d)))
    split (inl none) (inr t) c = inl (λ k d e. at_last k d e (cases_lt k (suc n)))
      where
        at_last : (k : ℕ) → a ≤ k → k ≤ suc n → (k < suc n) ⊎ (suc n ≤ k) → f k ≡ false
        at_last k d e (inl b) = none k d (le_of_suc-le-suc b)
        at_last k d e (inr b) = subst (λ j. f j ≡ false) (omega (arith, e, b)) t

pub open_or_ended : OpenOrEnded
open_or_ended h number q t = split (first_pass (λ k. is_met (state (take k h)).rows q) q.asked (length h))
  where
    split : FirstPass (λ k. is_met (state (take k h)).rows q) q.asked (length h) → IsOpen h q ⊎ ((n : ℕ) × (end : Ending) × IsEnd h number n end)
    split (inl none) = inl (record { unmet = none })
    split (inr p) = inr (p.0, ending (state (take p.0 h)).rows q, record { query = q; there = t; settles = record { from = p.1; here = p.2; met = p.3; first = p.4 }; ends = refl })

pub open_has_no_end : OpenHasNoEnd
open_has_no_end h number n q end t o x = let same = same_element (slice_get (state h).queries number) x.query q x.there t in
    both_ways (is_met (state (take n h)).rows q) (o.unmet n (subst (λ (r : Query). r.asked ≤ n) same x.settles.from) x.settles.here)
    (subst (λ r. is_met (state (take n h)).rows r ≡ true) same x.settles.met)
