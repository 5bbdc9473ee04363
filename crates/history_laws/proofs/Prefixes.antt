-- Queries and ends of a history and of a first part of it.
use Rattle.std.proofs.Common.{arith, ◌≡◌, ℕ, ◌+◌, ◌≤◌, ◌⊎◌, inl, inr, List, [], ◌∷◌, ◌++◌, length, take, drop, slice_get, Some, sym, subst, ap, le_refl, ◌∙◌}
use Rattle.session_model.specs.Meaning.{Meaning}
use Rattle.session_model.specs.Plain.{Plain, empty}
use Rattle.session_model.specs.Query.{ending, is_met}
use Rattle.session_model.specs.State.{after, state, state_from, IsEnd, SettlesAt}
use Rattle.std.proofs.lemmas.List.{length-take-le, take-take, take_all}
use Rattle.session_model.specs.declared.entry.Entry.{Entry}
use Rattle.session_model.specs.declared.rows.Ending.{Ending}
use Rattle.session_model.specs.declared.rows.Query.{Query}
use Rattle.session_laws.proofs.Declared.{after_query, end_stays, entries_are, front_and_rest, query_cases, query_stays, state_from_joined}
use Rattle.closure_laws.specs.Quiet.{SettlesNow}

-- a query that was asked before is there before
asked_before : (m : Plain) (es : List (Entry Meaning)) (k : ℕ) (q : Query) → slice_get (state_from m es).queries k ≡ Some q → q.asked ≤ m.entries → slice_get m.queries k ≡ Some q
asked_before m [] k q there early = there
asked_before m (e ∷ es) k q there early = back (query_cases m (after m e).queries k q (after_query m e) (asked_before (after m e) es k q there (omega (arith, early))))
  where
    back : (slice_get m.queries k ≡ Some q) ⊎ ((q.asked ≡ m.entries + 1) × ((after m e).queries ≡ m.queries ++ q ∷ [])) → slice_get m.queries k ≡ Some q
    back (inl t) = t
    back (inr p) = absurd (omega (arith, p.0, early))

-- where a query ends in a history, it settles at the last entry of the first part up to there
pub settles_there : (h : List (Entry Meaning)) (k n : ℕ) (end : Ending) → IsEnd h k n end → SettlesNow (take n h) k
settles_there h k n end x =
    let q = x.query in
    let short : length (take n h) ≡ n = length-take-le n h x.settles.here in
    let joined : state h ≡ state_from (state (take n h)) (drop n h) = ap state (front_and_rest n h) ∙ state_from_joined empty (take n h) (drop n h) in
    let early : q.asked ≤ (state (take n h)).entries = omega (arith, x.settles.from, entries_are (take n h), short) in
    let settles : SettlesAt (take n h) q n = record {
      from = x.settles.from;
      here = omega (arith, short);
      met = ap (λ es. is_met (state es).rows q) (take-take n n h (le_refl n)) ∙ x.settles.met;
      first = λ j a b. ap (λ es. is_met (state es).rows q) (take-take j n h (omega (arith, b))) ∙ x.settles.first j a b;
    } in
    (q, asked_before (state (take n h)) (drop n h) k q (subst (λ m. slice_get m.queries k ≡ Some q) joined x.there) early, subst (SettlesAt (take n h) q) (sym short) settles)

-- a query that settles at the last entry of a first part has its end there
pub ends_there : (h : List (Entry Meaning)) (k n : ℕ) (q : Query) → slice_get (state (take n h)).queries k ≡ Some q → SettlesAt (take n h) q (length (take n h)) →
    IsEnd h k (length (take n h)) (ending (state (take n h)).rows q)
ends_there h k n q there settles = subst (λ es. IsEnd es k (length (take n h)) (ending (state (take n h)).rows q)) (sym (front_and_rest n h)) (end_stays (take n h) (drop n h) k (length (take n h)) (ending (state (take n h)).rows q) at_end)
  where
    at_end : IsEnd (take n h) k (length (take n h)) (ending (state (take n h)).rows q)
    at_end = record { query = q; there = there; settles = settles; ends = ap (λ es. ending (state es).rows q) (take_all (length (take n h)) (take n h) (le_refl (length (take n h)))) }

-- a query of a first part is one of the history
pub query_later : (h : List (Entry Meaning)) (k n : ℕ) (q : Query) → slice_get (state (take n h)).queries k ≡ Some q → slice_get (state h).queries k ≡ Some q
query_later h k n q there = ap (λ m. slice_get m.queries k) (ap state (front_and_rest n h) ∙ state_from_joined empty (take n h) (drop n h)) ∙ query_stays (state (take n h)) (drop n h) k q there
