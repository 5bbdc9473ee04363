-- The ends of queries, one entry later.
use Rattle.std.proofs.Common.{◌≡◌, ℕ, ◌+◌, ◌<◌, ◌≤◌, true, false, List, [], ◌∷◌, ◌++◌, take, length, slice_get, Option, Some, None, ◌⊎◌, inl, inr, subst, sym, refl, ap, ◌∙◌, arith, le_refl, length-append}
use Rattle.std.specs.Prelude.{nat_lt, if◌then◌else◌}
use Rattle.std.specs.Option.{option_map_or}
use Rattle.std.proofs.lemmas.Bool.{cases_lt, le-ltb, lt-ltb}
use Rattle.std.proofs.lemmas.List.{take-append-le, take_all}
use Rattle.std.proofs.lemmas.Option.{same_Some}
use Rattle.session_model.specs.Meaning.{Meaning}
use Rattle.session_model.specs.Plain.{Plain, empty}
use Rattle.session_model.specs.Query.{is_met, ending}
use Rattle.session_model.specs.State.{state, IsOpen, IsEnd}
use Rattle.session_model.specs.declared.entry.Entry.{Entry}
use Rattle.session_model.specs.declared.rows.Query.{Query}
use Rattle.session_laws.proofs.Declared.{state_from_push, numbered_length, numbered_parts, element_below, appended_below, pushed_last, pushed_cases, NewQuery, after_query, query_was_asked, end_stays, entries_are, chosen}
use Rattle.session_past.specs.declared.ends.Settled.{Settled}
use Rattle.session_past.specs.Ends.{IsEndOf, AreEnds, next_end, end_now, with_room, ends_now}

-- an open query ends with the entry, or stays open
open_next : (past : List (Entry Meaning)) (e : Entry Meaning) (k : ℕ) (q : Query) → slice_get (state (past ++ e ∷ [])).queries k ≡ Some q → q.asked ≤ length (past ++ e ∷ []) →
    ((j : ℕ) → q.asked ≤ j → j ≤ length past → is_met (state (take j past)).rows q ≡ false) →
    IsEndOf (past ++ e ∷ []) k q (next_end (length (past ++ e ∷ [])) (state (past ++ e ∷ [])).rows q None)
open_next past e k q there asked unmet = chosen (IsEndOf h k q) (is_met (state h).rows q) (Some (record { at = length h; end = ending (state h).rows q })) None met_now open_now
  where
    h : List (Entry Meaning)
    h = past ++ e ∷ []

    long : length h ≡ length past + 1
    long = length-append past (e ∷ [])

    whole : state (take (length h) h) ≡ state h
    whole = ap state (take_all (length h) h (le_refl (length h)))

    before : (j : ℕ) → q.asked ≤ j → j < length h → is_met (state (take j h)).rows q ≡ false
    before j a b = let c : j ≤ length past = omega (arith, b, long) in
        ap (λ g. is_met (state g).rows q) (take-append-le j past (e ∷ []) c) ∙ unmet j a c

    met_now : is_met (state h).rows q ≡ true → IsEnd h k (length h) (ending (state h).rows q)
    met_now t = record {
      query = q;
      there = there;
      settles = record { from = asked; here = le_refl (length h); met = ap (λ m. is_met m.rows q) whole ∙ t; first = before };
      ends = ap (λ m. ending m.rows q) whole;
    }

    open_now : is_met (state h).rows q ≡ false → IsOpen h q
    open_now f = record { unmet = λ j a b. at j a b (cases_lt j (length h)) }
      where
        at : (j : ℕ) → q.asked ≤ j → j ≤ length h → (j < length h) ⊎ (length h ≤ j) → is_met (state (take j h)).rows q ≡ false
        at j a b (inl c) = before j a c
        at j a b (inr c) = let is : length h ≡ j = omega (arith, b, c) in
            subst (λ n. is_met (state (take n h)).rows q ≡ false) is (ap (λ m. is_met m.rows q) whole ∙ f)

-- an end that a query had stays
next_of : (past : List (Entry Meaning)) (e : Entry Meaning) (k : ℕ) (q : Query) (o : Option Settled) → slice_get (state past).queries k ≡ Some q → slice_get (state (past ++ e ∷ [])).queries k ≡ Some q → IsEndOf past k q o →
    IsEndOf (past ++ e ∷ []) k q (next_end (length (past ++ e ∷ [])) (state (past ++ e ∷ [])).rows q o)
next_of past e k q None old there is = open_next past e k q there (omega (arith, (query_was_asked past k q old).1, length-append past (e ∷ []))) is.unmet
next_of past e k q (Some x) old there is = end_stays past (e ∷ []) k x.at x.end is

-- a query that was there before, or was asked by the entry
abbrev Asked : Plain → Plain → Query → ℕ → Type 0
Asked m n q k = (slice_get m.queries k ≡ Some q) ⊎ ((k ≡ length m.queries) × (length n.queries ≡ length m.queries + 1) × (q.asked ≡ m.entries + 1))

asked_by : (m n : Plain) (k : ℕ) (q : Query) → NewQuery m n.queries → slice_get n.queries k ≡ Some q → Asked m n q k
asked_by m n k q (inl e) t = inl (ap (λ l. slice_get l k) (sym e) ∙ t)
asked_by m n k q (inr p) t = split (pushed_cases m.queries p.0 k q (ap (λ l. slice_get l k) (sym p.1) ∙ t))
  where
    split : (slice_get m.queries k ≡ Some q) ⊎ ((k ≡ length m.queries) × (q ≡ p.0)) → Asked m n q k
    split (inl a) = inl a
    split (inr b) = inr (b.0, ap length p.1 ∙ length-append m.queries (p.0 ∷ []), ap (λ (r : Query). r.asked) b.1 ∙ p.2)

-- With room for a new query

room_for : (n : ℕ) (ends : List (Option Settled)) → n ≡ length ends + 1 → with_room n ends ≡ ends ++ None ∷ []
room_for n ends e = ap (λ b. if b then ends ++ None ∷ [] else ends) (lt-ltb (length ends) n (omega (arith, e)))

room_within : (n : ℕ) (ends : List (Option Settled)) → n ≡ length ends → with_room n ends ≡ ends
room_within n ends e = ap (λ b. if b then ends ++ None ∷ [] else ends) (le-ltb (length ends) n (omega (arith, e)))

room_length : (m n : Plain) (ends : List (Option Settled)) → NewQuery m n.queries → length ends ≡ length m.queries → length (with_room (length n.queries) ends) ≡ length n.queries
room_length m n ends (inl e) i = let same : length n.queries ≡ length ends = ap length e ∙ sym i in
    ap length (room_within (length n.queries) ends same) ∙ sym same
room_length m n ends (inr p) i = let more : length n.queries ≡ length ends + 1 = ap length p.1 ∙ (length-append m.queries (p.0 ∷ []) ∙ ap (λ k. k + 1) (sym i)) in
    ap length (room_for (length n.queries) ends more) ∙ (length-append ends (None ∷ []) ∙ sym more)

room_old : (n k : ℕ) (ends : List (Option Settled)) → k < length ends → slice_get (with_room n ends) k ≡ slice_get ends k
room_old n k ends b = chosen (λ l. slice_get l k ≡ slice_get ends k) (nat_lt (length ends) n) (ends ++ None ∷ []) ends (λ t. appended_below ends (None ∷ []) k b) (λ f. refl)

-- the ends after one more entry
one_more : (past : List (Entry Meaning)) (e : Entry Meaning) (ends : List (Option Settled)) → AreEnds past (state past) ends → AreEnds (past ++ e ∷ []) (state (past ++ e ∷ [])) (ends_now (state (past ++ e ∷ [])) ends)
one_more past e ends a = record { inside = numbered_length (end_now n) 0 (with_room (length n.queries) ends) ∙ room_length (state past) n ends new a.inside; each = each }
  where
    h : List (Entry Meaning)
    h = past ++ e ∷ []

    n : Plain
    n = state (past ++ e ∷ [])

    new : NewQuery (state past) n.queries
    new = subst (λ m. NewQuery (state past) m.queries) (sym (state_from_push empty past e)) (after_query (state past) e)

    at_length : (q : Query) (x : Option Settled) → next_end n.entries n.rows q x ≡ next_end (length h) n.rows q x
    at_length q x = ap (λ i. next_end i n.rows q x) (entries_are h)

    by_query : (k : ℕ) (q : Query) (x : Option Settled) → slice_get n.queries k ≡ Some q → slice_get (with_room (length n.queries) ends) k ≡ Some x → Asked (state past) n q k → IsEndOf h k q (next_end (length h) n.rows q x)
    by_query k q x there got (inl old) = next_of past e k q x old there
        (a.each k q x old (sym (room_old (length n.queries) k ends (omega (arith, a.inside, element_below (state past).queries k q old))) ∙ got))
    by_query k q x there got (inr p) = subst (λ o. IsEndOf h k q (next_end (length h) n.rows q o)) none
        (open_next past e k q there (omega (arith, p.2, entries_are past, length-append past (e ∷ []))) (λ j b c. absurd (omega (arith, b, c, p.2, entries_are past))))
      where
        none : None ≡ x
        none = same_Some None x (sym (pushed_last ends None) ∙ (ap (slice_get (ends ++ None ∷ [])) (a.inside ∙ sym p.0) ∙ (ap (λ l. slice_get l k) (sym (room_for (length n.queries) ends (p.1 ∙ ap (λ i. i + 1) (sym a.inside)))) ∙ got)))

    each : (k : ℕ) (q : Query) (o : Option Settled) → slice_get n.queries k ≡ Some q → slice_get (ends_now n ends) k ≡ Some o → IsEndOf h k q o
    each k q o there got = let p = numbered_parts (end_now n) (with_room (length n.queries) ends) k o got in
        subst (IsEndOf h k q) (sym (p.2 ∙ (ap (λ f. option_map_or (λ r. next_end n.entries n.rows r p.0) f p.0) there ∙ at_length q p.0)))
        (by_query k q p.0 there p.1 (asked_by (state past) n k q new there))

pub ends_after : (past : List (Entry Meaning)) (e : Entry Meaning) (m : Plain) (ends : List (Option Settled)) → m ≡ state (past ++ e ∷ []) → AreEnds past (state past) ends → AreEnds (past ++ e ∷ []) m (ends_now m ends)
ends_after past e m ends is a = subst (λ n. AreEnds (past ++ e ∷ []) n (ends_now n ends)) (sym is) (one_more past e ends a)
