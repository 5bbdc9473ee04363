-- The ends that are kept are those of the queries, from one entry to the next.
use Rattle.std.proofs.Common.{◌≡◌, ℕ, zero, suc, ◌+◌, ◌≤◌, ◌<◌, Bool, true, false, List, [], ◌∷◌, ◌++◌, length, take, slice_get, ◌⊎◌, inl, inr, subst, sym, refl, ap, ◌∙◌, Option, Some, None, arith, le_refl}
use Rattle.std.specs.Bool.{if◌then◌else◌}
use Rattle.std.specs.Option.{option_map_or}
use Rattle.std.proofs.lemmas.Bool.{cases_lt}
use Rattle.std.proofs.lemmas.List.{length-append, take-append-le}
use Rattle.session_model.specs.Meaning.{Meaning}
use Rattle.session_model.specs.Plain.{Plain}
use Rattle.session_model.specs.Query.{is_met, ending}
use Rattle.session_model.specs.State.{after, state, IsOpen, IsEnd}
use Rattle.session_model.specs.declared.entry.Entry.{Entry}
use Rattle.session_model.specs.declared.rows.Query.{Query}
use Rattle.session_laws.proofs.Declared.{state_from_push, pushed_cases, same_element, element_below, none_past, entries_are, after_query, end_stays, query_was_asked, NewQuery}
use Rattle.std.proofs.lemmas.Option.{none-some}
use Rattle.list_laws.proofs.Lists.{some_below}
use Rattle.query_book.specs.declared.ends.QueryEnd.{QueryEnd}
use Rattle.session_parts.specs.Ends.{noted, noted_end, kept_end, IsKept, AreEnds}

-- the end noted at a place is that of the query there
pub noted_at : (m : Plain) (qs : List Query) (ends : List (Option QueryEnd)) (k : ℕ) (q : Query) (end : Option QueryEnd) → slice_get qs k ≡ Some q → slice_get (noted m qs ends) k ≡ Some end → end ≡ noted_end m q (kept_end ends k)
noted_at m [] ends k q end a b = absurd (none-some q a)
noted_at m (x ∷ qs) [] zero q end a b = same_element (Some (noted_end m x None)) end _ b refl ∙ ap (λ y. noted_end m y None) (same_element (Some x) x q refl a)
noted_at m (x ∷ qs) [] (suc k) q end a b = noted_at m qs [] k q end a b
noted_at m (x ∷ qs) (e ∷ ends) zero q end a b = same_element (Some (noted_end m x e)) end _ b refl ∙ ap (λ y. noted_end m y e) (same_element (Some x) x q refl a)
noted_at m (x ∷ qs) (e ∷ ends) (suc k) q end a b = noted_at m qs ends k q end a b

pub noted_length : (m : Plain) (qs : List Query) (ends : List (Option QueryEnd)) → length (noted m qs ends) ≡ length qs
noted_length m [] ends = refl
noted_length m (q ∷ qs) [] = ap suc (noted_length m qs [])
noted_length m (q ∷ qs) (e ∷ ends) = ap suc (noted_length m qs ends)

-- every beginning of the history up to its end, from the query's entry on, leaves it unmet
abbrev UnmetIn : List (Entry Meaning) → Query → Type 0
UnmetIn h q = (j : ℕ) → q.asked ≤ j → j ≤ length h → is_met (state (take j h)).rows q ≡ false

take_same : (h : List (Entry Meaning)) (e : Entry Meaning) (j : ℕ) → j ≤ length h → take j (h ++ e ∷ []) ≡ take j h
take_same h e j b = take-append-le j h (e ∷ []) b

take_whole : {X : Type 0} (xs : List X) → take (length xs) xs ≡ xs
take_whole [] = refl
take_whole (x ∷ xs) = ap (λ ys. x ∷ ys) (take_whole xs)

-- an open query after one more entry
note_open : (h : List (Entry Meaning)) (e : Entry Meaning) (k : ℕ) (q : Query) → slice_get (state (h ++ e ∷ [])).queries k ≡ Some q → q.asked ≤ length (h ++ e ∷ []) → UnmetIn h q → IsKept (h ++ e ∷ []) k q (noted_end (state (h ++ e ∷ [])) q None)
note_open h e k q there asked before = split (is_met (state new).rows q) refl
  where
    new : List (Entry Meaning)
    new = h ++ e ∷ []

    longer : length new ≡ length h + 1
    longer = length-append h (e ∷ [])

    here : state (take (length new) new) ≡ state new
    here = ap state (take_whole new)

    early : (j : ℕ) → q.asked ≤ j → j ≤ length h → is_met (state (take j new)).rows q ≡ false
    early j a b = ap (λ p. is_met (state p).rows q) (take_same h e j b) ∙ before j a b

    ended : is_met (state new).rows q ≡ true → IsEnd new k (state new).entries (ending (state new).rows q)
    ended t = subst (λ n. IsEnd new k n (ending (state new).rows q)) (sym (entries_are new)) (record {
      query = q;
      there = there;
      settles = record { from = asked; here = le_refl (length new); met = ap (λ m. is_met m.rows q) here ∙ t; first = λ j a b. early j a (omega (arith, b, longer)) };
      ends = ap (λ m. ending m.rows q) here;
    })

    unsettled : is_met (state new).rows q ≡ false → IsOpen new q
    unsettled f = record { unmet = λ j a b. last j a b (cases_lt (length h) j) }
      where
        last : (j : ℕ) → q.asked ≤ j → j ≤ length new → (length h < j) ⊎ (j ≤ length h) → is_met (state (take j new)).rows q ≡ false
        last j a b (inr c) = early j a c
        last j a b (inl c) = ap (λ n. is_met (state (take n new)).rows q) (omega (arith, b, c, longer)) ∙ (ap (λ m. is_met m.rows q) here ∙ f)

    split : (b : Bool) → is_met (state new).rows q ≡ b → IsKept new k q (if b then Some (record { at = (state new).entries; end = ending (state new).rows q }) else None)
    split true t = ended t
    split false f = unsettled f

-- the ends are kept from one entry to the next
pub ends_grow : (h : List (Entry Meaning)) (e : Entry Meaning) (ends : List (Option QueryEnd)) → AreEnds h ends → AreEnds (h ++ e ∷ []) (noted (state (h ++ e ∷ [])) (state (h ++ e ∷ [])).queries ends)
ends_grow h e ends x = record { count = noted_length (state new) (state new).queries ends; each = each }
  where
    new : List (Entry Meaning)
    new = h ++ e ∷ []

    step : state new ≡ after (state h) e
    step = state_from_push _ h e

    queries : NewQuery (state h) (state new).queries
    queries = subst (λ m. NewQuery (state h) m.queries) (sym step) (after_query (state h) e)

    -- a query that was there
    old : (k : ℕ) (q : Query) (o : Option QueryEnd) → slice_get (state h).queries k ≡ Some q → slice_get ends k ≡ Some o → slice_get (state new).queries k ≡ Some q → IsKept new k q (noted_end (state new) q o)
    old k q None a b c = note_open h e k q c (asked_before k q a) (kept_open (x.each k q None a b))
      where
        kept_open : IsOpen h q → UnmetIn h q
        kept_open o j d f = o.unmet j d f

        asked_before : (k : ℕ) (q : Query) → slice_get (state h).queries k ≡ Some q → q.asked ≤ length new
        asked_before k q a = omega (arith, (query_was_asked h k q a).1, length-append h (e ∷ []))
    old k q (Some o) a b c = end_stays h (e ∷ []) k o.at o.end (x.each k q (Some o) a b)

    each : (k : ℕ) (q : Query) (end : Option QueryEnd) → slice_get (state new).queries k ≡ Some q → slice_get (noted (state new) (state new).queries ends) k ≡ Some end → IsKept new k q end
    each k q end a b = subst (λ o. IsKept new k q o) (sym (noted_at (state new) (state new).queries ends k q end a b)) (cases queries)
      where
        there : slice_get (state h).queries k ≡ Some q → IsKept new k q (noted_end (state new) q (kept_end ends k))
        there c = found (slice_get ends k) refl
          where
            found : (o : Option (Option QueryEnd)) → slice_get ends k ≡ o → IsKept new k q (noted_end (state new) q (option_map_or (λ end. end) o None))
            found (Some o) d = old k q o c d a
            found None d = absurd (missing (some_below ends k (subst (λ n. k < n) (sym x.count) (element_below (state h).queries k q c))))
              where
                missing : (o : Option QueryEnd) × (slice_get ends k ≡ Some o) → ⊥
                missing p = none-some p.0 (sym d ∙ p.1)

        fresh : (p : Query) → p.asked ≡ (state h).entries + 1 → q ≡ p → slice_get ends k ≡ None → IsKept new k q (noted_end (state new) q (kept_end ends k))
        fresh p asked same d = subst (λ o. IsKept new k q (noted_end (state new) q (option_map_or (λ (end : Option QueryEnd). end) o None))) (sym d) (note_open h e k q a (omega (arith, at, length-append h (e ∷ []))) (λ j b c. absurd (omega (arith, at, b, c))))
          where
            at : q.asked ≡ length h + 1
            at = ap (λ (r : Query). r.asked) same ∙ (asked ∙ ap (λ n. n + 1) (entries_are h))

        pushed : (p : Query) → p.asked ≡ (state h).entries + 1 → (slice_get (state h).queries k ≡ Some q) ⊎ ((k ≡ length (state h).queries) × (q ≡ p)) → IsKept new k q (noted_end (state new) q (kept_end ends k))
        pushed p asked (inl c) = there c
        pushed p asked (inr c) = fresh p asked c.1 (none_past ends k (omega (arith, x.count, c.0)))

        cases : NewQuery (state h) (state new).queries → IsKept new k q (noted_end (state new) q (kept_end ends k))
        cases (inl same) = there (subst (λ qs. slice_get qs k ≡ Some q) same a)
        cases (inr g) = pushed g.0 g.2 (pushed_cases (state h).queries g.0 k q (subst (λ qs. slice_get qs k ≡ Some q) g.1 a))
