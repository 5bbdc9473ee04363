-- A lookup ends exactly where its query settles.
use Rattle.std.proofs.Common.{◌≡◌, ℕ, ◌<◌, ◌≤◌, true, false, List, [], ◌∷◌, ◌++◌, slice_get, take, drop, refl, sym, subst, ap, ◌∙◌, Option, Some, None, is_some}
use Rattle.std.specs.Option.{option_map_or}
use Rattle.std.proofs.lemmas.Bool.{or_parts}
use Rattle.std.proofs.lemmas.List.Elements.{All-contains, Contains-push}
use Rattle.orc_ids.specs.declared.ids.InstId.{InstId}
use Rattle.orc_ids.specs.declared.ids.QueryId.{QueryId}
use Rattle.session_model.specs.Answer.{Answers, AnswersCollect}
use Rattle.session_model.specs.Calls.{Lookup, Looks, is_collected}
use Rattle.session_model.specs.History.{IsLegal}
use Rattle.session_model.specs.Meaning.{Bindings, Meaning}
use Rattle.session_model.specs.Plain.{Plain}
use Rattle.session_model.specs.Query.{addresses, all_at, ending, first_lost}
use Rattle.session_model.specs.State.{IsEnd, SettlesAt, state}
use Rattle.session_model.specs.declared.entry.Entry.{Entry}
use Rattle.session_model.specs.declared.entry.Event.TheVariants as event
use Rattle.session_model.specs.declared.entry.Reply.{Reply}
use Rattle.session_model.specs.declared.entry.Reply.TheVariants as reply
use Rattle.session_model.specs.declared.rows.Ending.{Ending}
use Rattle.session_model.specs.declared.rows.Ending.TheVariants.{Found, Lost}
use Rattle.session_model.specs.declared.rows.InstRow.{InstRow}
use Rattle.session_model.specs.declared.rows.Query.{Query}
use Rattle.session_laws.proofs.Declared.{same_element, end_stays, front_and_rest, none_some}
use Rattle.closure_laws.proofs.Declared.{found_parts}
use Rattle.session_promises.specs.Laws.{FailedWhereLost, FoundWhereSettled}
use Rattle.session_promises.specs.Lookups.{AreCallsOf, AreMatched, AreWaiting}
use Rattle.session_promises.proofs.Entries.{entry_answers}
use Rattle.session_promises.proofs.LastCalls.{CollectsLookup, IsCallOf, last_collects}
use Rattle.session_promises.proofs.Lodged.{query_lodged, query_of}

-- The end that a lookup was told

-- the answer of a collect that tells it
abbrev told : ℕ → Ending → Reply
told n (Found matches) = reply.Found n matches
told n (Lost i) = reply.Lost n i

told_collected : (n : ℕ) (end : Ending) → is_collected (told n end) ≡ true
told_collected n (Found matches) = refl
told_collected n (Lost i) = refl

told_ends : (past : List (Entry Meaning)) (m : Plain) (q n : ℕ) (end : Ending) → AnswersCollect past m q (told n end) → IsEnd past q n end
told_ends past m q n (Found matches) a = a
told_ends past m q n (Lost i) a = a

-- the query of one of its asks settles at entry n, with this end
record LookupEnds (h : List (Entry Meaning)) (l : Lookup) (call : ℕ × Entry Meaning) (n : ℕ) (end : Ending) : Type 0 where
  query : QueryId
  collects : call.1.event ≡ event.Collect query
  asked : ℕ
  found : AreMatched h l query asked (query_of h l asked).matched
  settles : SettlesAt h (query_of h l asked) n
  ends : ending (state (take n h)).rows (query_of h l asked) ≡ end

lookup_ends : (jmax : ℕ) (h : List (Entry Meaning)) → IsLegal jmax h → (l : Lookup) (before : List (ℕ × Entry Meaning)) (last : ℕ × Entry Meaning) →
    AreCallsOf h (before ++ last ∷ []) → Looks h l (before ++ last ∷ []) → (n : ℕ) (end : Ending) → last.1.reply ≡ told n end → LookupEnds h l last n end
lookup_ends jmax h legal l before last calls looks n end reply_is = record {
  query = c.query;
  collects = c.collects;
  asked = c.asked;
  found = record { ask = c.ask; there = c.there; asks = c.asks; lodges = c.lodges; are = refl };
  settles = subst (λ q. SettlesAt h q n) same whole.settles;
  ends = ap (ending (state (take n h)).rows) (sym same) ∙ whole.ends;
}
  where
    c : CollectsLookup h l last
    c = last_collects h l before last calls looks (ap is_collected reply_is ∙ told_collected n end)

    at : IsCallOf h last
    at = All-contains (IsCallOf h) (before ++ last ∷ []) last calls (Contains-push before last)

    -- it was the end when it was collected, and is still
    then : IsEnd (take at.0 h) c.query.0 n end
    then = told_ends (take at.0 h) (state (take at.0 h)) c.query.0 n end
        (subst (λ r. AnswersCollect (take at.0 h) (state (take at.0 h)) c.query.0 r) reply_is
        (subst (λ v. Answers jmax (take at.0 h) (state (take at.0 h)) last.1.seat.0 v last.1.reply) c.collects (entry_answers jmax h legal at.0 last.1 at.2)))

    whole : IsEnd h c.query.0 n end
    whole = subst (λ g. IsEnd g c.query.0 n end) (sym (front_and_rest at.0 h)) (end_stays (take at.0 h) (drop at.0 h) c.query.0 n end then)

    same : whole.query ≡ query_of h l c.asked
    same = same_element (slice_get (state h).queries c.query.0) whole.query (query_of h l c.asked) whole.there (query_lodged jmax h legal l c.asked c.ask c.there c.asks c.query c.lodges)

-- What the end tells

-- until it settled, neither end was decided
still_waiting : (h : List (Entry Meaning)) (q : Query) (n : ℕ) → SettlesAt h q n → AreWaiting h q.level q.matched q.asked n
still_waiting h q n s = record { below = λ k a b. (undecided k a b).0; unlost = λ k a b. none_some (first_lost (state (take k h)).rows q.matched) (undecided k a b).1 }
  where
    undecided : (k : ℕ) → q.asked ≤ k → k < n → (all_at (state (take k h)).rows q.level q.matched ≡ false) × (is_some (first_lost (state (take k h)).rows q.matched) ≡ false)
    undecided k a b = or_parts (all_at (state (take k h)).rows q.level q.matched) (is_some (first_lost (state (take k h)).rows q.matched)) (s.first k a b)

-- what ends found lost nothing
found_unlost : (rows : List InstRow) (q : Query) (b : Bindings) → ending rows q ≡ Found b → first_lost rows q.matched ≡ None
found_unlost rows q b e = split (first_lost rows q.matched) e
  where
    split : (o : Option InstId) → option_map_or Lost o (Found (addresses rows q.matched)) ≡ Found b → o ≡ None
    split None f = refl
    split (Some i) f = absurd (cc)

-- what ends lost, lost that instance first
lost_first : (rows : List InstRow) (q : Query) (i : InstId) → ending rows q ≡ Lost i → first_lost rows q.matched ≡ Some i
lost_first rows q i e = split (first_lost rows q.matched) e
  where
    same_lost : (j : InstId) → Lost j ≡ Lost i → j ≡ i
    same_lost j f = cc

    split : (o : Option InstId) → option_map_or Lost o (Found (addresses rows q.matched)) ≡ Lost i → o ≡ Some i
    split None f = absurd (cc)
    split (Some j) f = ap Some (same_lost j f)

pub found_where_settled : FoundWhereSettled
found_where_settled jmax h legal l before last calls looks at matches e =
    let z = lookup_ends jmax h legal l before last calls looks at (Found matches) e in
    let q = query_of h l z.asked in
    let rows = (state (take at h)).rows in
    let f = found_parts rows q matches z.settles.met z.ends in (
      z.query,
      z.collects,
      record {
        asked = z.asked;
        found = q.matched;
        matched = z.found;
        first = record { from = z.settles.from; within = z.settles.here; waiting = still_waiting h q at z.settles; here = f.all; unlost = found_unlost rows q matches z.ends };
        are = f.are;
      },
    )

pub failed_where_lost : FailedWhereLost
failed_where_lost jmax h legal l before last calls looks at lost e =
    let z = lookup_ends jmax h legal l before last calls looks at (Lost lost) e in
    let q = query_of h l z.asked in (
      z.query,
      z.collects,
      record {
        asked = z.asked;
        found = q.matched;
        matched = z.found;
        first = record { from = z.settles.from; within = z.settles.here; waiting = still_waiting h q at z.settles; here = lost_first (state (take at h)).rows q lost z.ends };
      },
    )
