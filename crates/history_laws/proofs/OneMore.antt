-- What one more entry leaves of the ends of a history's queries.
use Rattle.std.proofs.Common.{◌≡◌, ℕ, ◌+◌, ◌<◌, ◌≤◌, ◌⊎◌, inl, inr, List, [], ◌∷◌, ◌++◌, length, slice_get, take, Some, ap, sym, subst, ◌∙◌, arith, le_refl}
use Rattle.std.proofs.lemmas.Bool.{both_ways, cases_lt}
use Rattle.std.proofs.lemmas.List.{take-append-le, length-append}
use Rattle.session_model.specs.Meaning.{Meaning}
use Rattle.session_model.specs.Plain.{empty}
use Rattle.session_model.specs.Query.{is_met, ending}
use Rattle.session_model.specs.State.{state, after, SettlesAt, IsOpen, IsEnd}
use Rattle.session_model.specs.declared.entry.Entry.{Entry}
use Rattle.session_model.specs.declared.rows.Ending.{Ending}
use Rattle.session_model.specs.declared.rows.Query.{Query}
use Rattle.session_laws.proofs.Declared.{state_from_push, same_element, after_query, query_cases, entries_are}
use Rattle.closure_laws.specs.Quiet.{SettlesNow}

-- Ends

met_before : (h : List (Entry Meaning)) (e : Entry Meaning) (q : Query) (k : ℕ) → k ≤ length h → is_met (state (take k h)).rows q ≡ is_met (state (take k (h ++ e ∷ []))).rows q
met_before h e q k b = ap (λ g. is_met (state g).rows q) (sym (take-append-le k h (e ∷ []) b))

-- one that is open after the entry, or settles at it, was open before it
pub open_before : (h : List (Entry Meaning)) (e : Entry Meaning) (q : Query) → IsOpen (h ++ e ∷ []) q → IsOpen h q
open_before h e q o = record { unmet = λ k a b. met_before h e q k b ∙ o.unmet k a (omega (arith, b, length-append h (e ∷ []))) }

pub settling_was_open : (h : List (Entry Meaning)) (e : Entry Meaning) (q : Query) → SettlesAt (h ++ e ∷ []) q (length (h ++ e ∷ [])) → IsOpen h q
settling_was_open h e q s = record { unmet = λ k a b. met_before h e q k b ∙ s.first k a (omega (arith, b, length-append h (e ∷ []))) }

-- one that settles isn't open
pub settled_isnt_open : (h : List (Entry Meaning)) (k : ℕ) (q : Query) → slice_get (state h).queries k ≡ Some q → IsOpen h q → SettlesNow h k → ⊥
settled_isnt_open h k q t o w =
    let same = same_element (slice_get (state h).queries k) w.0 q w.1 t in
    let s = subst (λ r. SettlesAt h r (length h)) same w.2 in
    both_ways (is_met (state (take (length h) h)).rows q) (o.unmet (length h) s.from (le_refl (length h))) s.met

-- one that has settled did so before the entry, or at it
pub end_before_or_now : (h : List (Entry Meaning)) (e : Entry Meaning) (k n : ℕ) (end : Ending) → IsEnd (h ++ e ∷ []) k n end → IsEnd h k n end ⊎ SettlesNow (h ++ e ∷ []) k
end_before_or_now h e k n end x = split (cases_lt (length h) n)
  where
    old : n ≤ length h → slice_get (state h).queries k ≡ Some x.query
    old b = asked (query_cases (state h) (after (state h) e).queries k x.query (after_query (state h) e) (ap (λ m. slice_get m.queries k) (sym (state_from_push empty h e)) ∙ x.there))
      where
        asked : (slice_get (state h).queries k ≡ Some x.query) ⊎ ((x.query.asked ≡ (state h).entries + 1) × ((after (state h) e).queries ≡ (state h).queries ++ x.query ∷ [])) → slice_get (state h).queries k ≡ Some x.query
        asked (inl t) = t
        asked (inr p) = absurd (omega (arith, p.0, entries_are h, x.settles.from, b))

    split : (length h < n) ⊎ (n ≤ length h) → IsEnd h k n end ⊎ SettlesNow (h ++ e ∷ []) k
    split (inl b) = inr (x.query, x.there, subst (SettlesAt (h ++ e ∷ []) x.query) (omega (arith, b, x.settles.here, length-append h (e ∷ []))) x.settles)
    split (inr b) = inl (record {
      query = x.query;
      there = old b;
      settles = record {
        from = x.settles.from;
        here = b;
        met = met_before h e x.query n b ∙ x.settles.met;
        first = λ j a c. met_before h e x.query j (omega (arith, b, c)) ∙ x.settles.first j a c;
      };
      ends = ap (λ g. ending (state g).rows x.query) (sym (take-append-le n h (e ∷ []) b)) ∙ x.ends;
    })
