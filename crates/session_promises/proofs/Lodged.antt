-- The query that an ask lodges stays the one of its number.
use Rattle.std.proofs.Common.{◌≡◌, ℕ, ◌+◌, not, List, ◌∷◌, ◌++◌, [], length, slice_get, take, drop, ◌⊎◌, inl, inr, arith, refl, sym, subst, ap, ◌∙◌, Option, Some, None}
use Rattle.std.specs.Bool.{⊤}
use Rattle.std.specs.Prelude.{◌&&◌, is_none}
use Rattle.std.proofs.lemmas.List.{length-take-le}
use Rattle.orc_ids.specs.declared.ids.DylibId.{DylibId}
use Rattle.orc_ids.specs.declared.ids.QueryId.{QueryId}
use Rattle.orc_ids.specs.declared.lookup.Level.{Level}
use Rattle.orc_ids.specs.declared.lookup.OrderItem.{OrderItem}
use Rattle.orc_ids.specs.declared.lookup.Wanted.{Wanted}
use Rattle.session_model.specs.Answer.{Answers, answer_ask, answer_lookup, error_of, lodged_reply, missing_of, no_dylib, offer_of, order_dylibs, refused_lookup}
use Rattle.session_model.specs.Calls.{Lookup, lookup_event}
use Rattle.session_model.specs.Change.{change_of, changed, matched}
use Rattle.session_model.specs.History.{IsLegal}
use Rattle.session_model.specs.Lists.{first_some, only_if}
use Rattle.session_model.specs.Match.{match_of}
use Rattle.session_model.specs.Meaning.{Meaning}
use Rattle.session_model.specs.Plain.{Plain, empty, failed_at, has_dylib}
use Rattle.session_model.specs.Query.{all_at}
use Rattle.session_model.specs.State.{after, state}
use Rattle.session_model.specs.declared.change.Change.{Change}
use Rattle.session_model.specs.declared.change.Change.TheVariants.{Ask}
use Rattle.session_model.specs.declared.entry.Entry.{Entry}
use Rattle.session_model.specs.declared.entry.Reply.{Reply}
use Rattle.session_model.specs.declared.entry.Reply.TheVariants as reply
use Rattle.session_model.specs.declared.rows.Match.{Match}
use Rattle.session_model.specs.declared.rows.Match.TheVariants.{Instance, Offered}
use Rattle.session_model.specs.declared.rows.Query.{Query}
use Rattle.session_laws.proofs.Declared.{element_below, pushed_last, all_claimed_queries, entries_are, front_and_rest, query_stays, state_from_joined, AllReplies, replies_else, replies_first, replies_only, replies_or, chosen, settled_queries}
use Rattle.session_promises.proofs.Entries.{entry_answers, entry_leads}

-- The number of the query

-- a reply that lodges a query names this one
abbrev Names : ℕ → Reply → Type 0
Names k (reply.Done q) = q.0 ≡ k
Names k (reply.Pending q) = q.0 ≡ k
Names k _ = ⊤

offer_names : (k : ℕ) (o : Option Match) → AllReplies (Names k) (offer_of o)
offer_names k None = tt
offer_names k (Some (Offered g)) = tt
offer_names k (Some (Instance i)) = tt

error_names : (k : ℕ) (m : Plain) (o : Option Match) → AllReplies (Names k) (error_of m o)
error_names k m None = tt
error_names k m (Some (Offered g)) = tt
error_names k m (Some (Instance i)) = replies_only (Names k) (failed_at m.rows i.0) (reply.InError i) tt

refusal_names : (k : ℕ) (m : Plain) (order : List OrderItem) (wanted : List Wanted) → AllReplies (Names k) (refused_lookup m order wanted)
refusal_names k m order wanted = replies_else (Names k) (first_some (λ (w : Wanted). offer_of (match_of m order w.name.0)) wanted) _
    (replies_first (Names k) (λ (w : Wanted). offer_of (match_of m order w.name.0)) (λ w. offer_names k (match_of m order w.name.0)) wanted)
    (replies_else (Names k) (first_some (λ (w : Wanted). error_of m (match_of m order w.name.0)) wanted) _
    (replies_first (Names k) (λ (w : Wanted). error_of m (match_of m order w.name.0)) (λ w. error_names k m (match_of m order w.name.0)) wanted)
    (replies_first (Names k) (missing_of m order) (λ w. replies_only (Names k) (not w.weak && is_none (match_of m order w.name.0)) (reply.Missing w.name) tt) wanted))

ask_names : (m : Plain) (order : List OrderItem) (wanted : List Wanted) (lev : Level) → Names (length m.queries) (answer_ask m order wanted lev)
ask_names m order wanted lev = let k = length m.queries in replies_or (Names k) (no_dylib m (order_dylibs order)) (answer_lookup m order wanted lev)
    (replies_first (Names k) (λ (d : DylibId). only_if (not (has_dylib m d.0)) (reply.NoDylib d)) (λ d. replies_only (Names k) (not (has_dylib m d.0)) (reply.NoDylib d) tt) (order_dylibs order))
    (replies_or (Names k) (refused_lookup m order wanted) (lodged_reply m lev (matched m order wanted)) (refusal_names k m order wanted)
    (chosen (Names k) (all_at m.rows lev (matched m order wanted)) (reply.Done (record { 0 = k })) (reply.Pending (record { 0 = k })) (λ b. refl) (λ b. refl)))

-- The query

-- the reply lodges this query
abbrev pub Lodges : Reply → QueryId → Type 0
Lodges r q = (r ≡ reply.Done q) ⊎ (r ≡ reply.Pending q)

named : (k : ℕ) (r : Reply) (q : QueryId) → Lodges r q → Names k r → q.0 ≡ k
named k r q (inl e) n = subst (Names k) e n
named k r q (inr e) n = subst (Names k) e n

-- what entry n + 1 lodges, if it asks for a lookup's names
abbrev pub query_of : List (Entry Meaning) → Lookup → ℕ → Query
query_of h l n = record { asked = n + 1; matched = matched (state (take n h)) l.order l.wanted; level = l.level; unit = None; note = l.note }

pub query_lodged : (jmax : ℕ) (h : List (Entry Meaning)) → IsLegal jmax h → (l : Lookup) (n : ℕ) (e : Entry Meaning) → slice_get h n ≡ Some e → e.event ≡ lookup_event l → (q : QueryId) → Lodges e.reply q → slice_get (state h).queries q.0 ≡ Some (query_of h l n)
query_lodged jmax h legal l n e there asks q lodges = ap (λ (m : Plain). slice_get m.queries q.0) (ap state (front_and_rest (n + 1) h) ∙ state_from_joined empty (take (n + 1) h) (drop (n + 1) h))
    ∙ query_stays (state (take (n + 1) h)) (drop (n + 1) h) q.0 query now
  where
    m : Plain
    m = state (take n h)

    query : Query
    query = query_of h l n

    number : q.0 ≡ length m.queries
    number = named (length m.queries) e.reply q lodges
        (subst (Names (length m.queries)) (sym (subst (λ v. Answers jmax (take n h) m e.seat.0 v e.reply) asks (entry_answers jmax h legal n e there)).2) (ask_names m l.order l.wanted l.level))

    by_reply : Lodges e.reply q → change_of m e.seat.0 (lookup_event l) e.reply ≡ Ask query.matched l.level l.note
    by_reply (inl r) = ap (change_of m e.seat.0 (lookup_event l)) r
    by_reply (inr r) = ap (change_of m e.seat.0 (lookup_event l)) r

    change : change_of m e.seat.0 e.event e.reply ≡ Ask query.matched l.level l.note
    change = ap (λ v. change_of m e.seat.0 v e.reply) asks ∙ by_reply lodges

    -- each entry before it is one that the session counts
    asked : m.entries + 1 ≡ n + 1
    asked = ap (λ k. k + 1) (entries_are (take n h) ∙ length-take-le n h (omega (arith, element_below h n e there)))

    queries : (after m e).queries ≡ m.queries ++ query ∷ []
    queries = settled_queries (changed (change_of m e.seat.0 e.event e.reply) m) ∙ (ap (λ (c : Change Meaning). (changed c m).queries) change
        ∙ (ap (λ qs. qs ++ record { asked = m.entries + 1; matched = query.matched; level = l.level; unit = None; note = l.note } ∷ []) (all_claimed_queries query.matched m)
        ∙ ap (λ a. m.queries ++ record { asked = a; matched = query.matched; level = l.level; unit = None; note = l.note } ∷ []) asked))

    now : slice_get (state (take (n + 1) h)).queries q.0 ≡ Some query
    now = ap (λ (s : Plain). slice_get s.queries q.0) (entry_leads h n e there) ∙ (ap (slice_get (after m e).queries) number ∙ (ap (λ qs. slice_get qs (length m.queries)) queries ∙ pushed_last m.queries query))
