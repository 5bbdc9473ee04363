-- Which queries an entry settles, and who is told.
use Rattle.std.proofs.Common.{◌≡◌, ℕ, zero, suc, ◌+◌, ◌≤◌, ◌<◌, ◌⊎◌, inl, inr, Bool, true, false, ◌||◌, List, [], ◌∷◌, ◌++◌, length, slice_get, set, take, Option, Some, None, option_map, is_none, refl, ap, ap₂, sym, subst, ◌∙◌, arith, le_refl}
use Rattle.std.specs.Bool.{if◌then◌else◌}
use Rattle.std.specs.Prelude.{◌==◌, ◌↔◌, flat_map, option_and_then}
use Rattle.std.specs.Option.{option_map_or}
use Rattle.std.proofs.lemmas.Bool.{cases_eq, both_ways, and_parts, and_from, eq-eqb, ne_eqb, eqb-true, or_cases, or_left}
use Rattle.std.proofs.lemmas.List.{length-append}
use Rattle.std.proofs.lemmas.Option.{none-some, same_Some}
use Rattle.list_laws.proofs.Lists.{set_there, set_elsewhere}
use Rattle.session_model.specs.Meaning.{Meaning}
use Rattle.session_model.specs.Plain.{Plain}
use Rattle.session_model.specs.Query.{Stand, stand_at}
use Rattle.session_model.specs.Query as session
use Rattle.session_model.specs.State.{state, SettlesAt, IsEnd}
use Rattle.session_model.specs.declared.entry.Entry.{Entry}
use Rattle.session_model.specs.declared.rows.InstRow.{InstRow}
use Rattle.session_model.specs.declared.rows.Query.{Query}
use Rattle.session_laws.proofs.Declared.{same_element, element_below, entries_are, end_is_unique}
use Rattle.notifiers.specs.declared.notice.Unheard.{Unheard}
use Rattle.notifiers.specs.declared.notice.Notice.{Notice}
use Rattle.query_book.specs.declared.ends.QueryEnd.{QueryEnd}
use Rattle.query_book.specs.Ends.{told_end}
use Rattle.query_book.specs.Ledger.{Ledger, settles, settling, account, settled, fires_of}
use Rattle.query_book.specs.Rows.{Account, notices, outcome_of, ended_one, ended_all, fired_one, fired_all}
use Rattle.query_book.specs.Stands.{is_met}
use Rattle.query_book.proofs.Session.{stands_same}
use Rattle.session_parts.specs.Ends.{noted, noted_end, kept_end, AreEnds}
use Rattle.session_parts.proofs.Ending.{noted_at}
use Rattle.session_steps.specs.Fires.{AreRising, is_one_of, notice_of, AreFires}
use Rattle.closure_laws.specs.Quiet.{SettlesNow}
use Rattle.closure_laws.proofs.Declared.{row_below}
use Rattle.session_steps.proofs.Elements.{unmapped}

-- The numbers that settle

rising_later : (k j : ℕ) (ns : List ℕ) → k ≤ j → AreRising j ns → AreRising k ns
rising_later k j [] b r = tt
rising_later k j (n ∷ ns) b r = ((omega (arith, b, r.0)), r.1)

pub settling_rises : (k : ℕ) (s : ℕ → Stand) (qs : List Query) (ends : List (Option QueryEnd)) → AreRising k (settling k s qs ends)
settling_rises k s [] ends = tt
settling_rises k s (q ∷ qs) [] = tt
settling_rises k s (q ∷ qs) (end ∷ ends) = split (settles s q end) (settling_rises (suc k) s qs ends)
  where
    split : (b : Bool) → AreRising (suc k) (settling (suc k) s qs ends) → AreRising k ((if b then k ∷ [] else []) ++ settling (suc k) s qs ends)
    split true r = ((le_refl k), rising_later (k + 1) (suc k) (settling (suc k) s qs ends) (omega arith) r)
    split false r = rising_later k (suc k) (settling (suc k) s qs ends) (omega arith) r

-- an open query that is met
pub record IsSettling (s : ℕ → Stand) (qs : List Query) (ends : List (Option QueryEnd)) (j : ℕ) : Type 0 where
  pub query : Query
  pub there : slice_get qs j ≡ Some query
  pub unended : slice_get ends j ≡ Some None
  pub met : is_met s query ≡ true

unended_end : (end : Option QueryEnd) → is_none end ≡ true → end ≡ None
unended_end None h = refl
unended_end (Some e) h = absurd cc

or_later : (b : Bool) {c : Bool} → c ≡ true → (b || c) ≡ true
or_later true e = refl
or_later false e = e

pub settling_is : (k n : ℕ) (s : ℕ → Stand) (qs : List Query) (ends : List (Option QueryEnd)) → is_one_of n (settling k s qs ends) ≡ true → (j : ℕ) × (n ≡ k + j) × IsSettling s qs ends j
settling_is k n s [] ends c = absurd cc
settling_is k n s (q ∷ qs) [] c = absurd cc
settling_is k n s (q ∷ qs) (end ∷ ends) c = split (settles s q end) refl (settling_is (suc k) n s qs ends) c
  where
    later : ((j : ℕ) × (n ≡ suc k + j) × IsSettling s qs ends j) → (j : ℕ) × (n ≡ k + j) × IsSettling s (q ∷ qs) (end ∷ ends) j
    later p = (suc p.0, (let same : n ≡ k + suc p.0 = omega (arith, p.1) in same), record { query = p.2.query; there = p.2.there; unended = p.2.unended; met = p.2.met })

    here : settles s q end ≡ true → ((k == n) ≡ true) ⊎ (is_one_of n (settling (suc k) s qs ends) ≡ true) → (is_one_of n (settling (suc k) s qs ends) ≡ true → (j : ℕ) × (n ≡ suc k + j) × IsSettling s qs ends j) → (j : ℕ) × (n ≡ k + j) × IsSettling s (q ∷ qs) (end ∷ ends) j
    here t (inl e) rest = let b = and_parts (is_none end) (is_met s q) t in (0, (let same : n ≡ k + 0 = omega (arith, eqb-true k n e) in same), record { query = q; there = refl; unended = ap Some (unended_end end b.0); met = b.1 })
    here t (inr c) rest = later (rest c)

    split : (b : Bool) → settles s q end ≡ b → (is_one_of n (settling (suc k) s qs ends) ≡ true → (j : ℕ) × (n ≡ suc k + j) × IsSettling s qs ends j) → is_one_of n ((if b then k ∷ [] else []) ++ settling (suc k) s qs ends) ≡ true → (j : ℕ) × (n ≡ k + j) × IsSettling s (q ∷ qs) (end ∷ ends) j
    split true t rest c = here t (or_cases (k == n) (is_one_of n (settling (suc k) s qs ends)) c) rest
    split false t rest c = later (rest c)

pub settling_has : (k j : ℕ) (s : ℕ → Stand) (qs : List Query) (ends : List (Option QueryEnd)) → IsSettling s qs ends j → is_one_of (k + j) (settling k s qs ends) ≡ true
settling_has k j s [] ends i = absurd (none-some i.query i.there)
settling_has k j s (q ∷ qs) [] i = absurd (none-some None i.unended)
settling_has k zero s (q ∷ qs) (end ∷ ends) i = subst (λ b. is_one_of (k + 0) ((if b then k ∷ [] else []) ++ settling (suc k) s qs ends) ≡ true) (sym is) (ap (λ b. b || is_one_of (k + 0) (settling (suc k) s qs ends)) (eq-eqb k (k + 0) (let same : k ≡ k + 0 = omega arith in same)))
  where
    is : settles s q end ≡ true
    is = and_from (is_none end) (is_met s q) (ap is_none (same_Some end None i.unended)) (ap (is_met s) (same_Some q i.query i.there) ∙ i.met)
settling_has k (suc j) s (q ∷ qs) (end ∷ ends) i = split (settles s q end) (subst (λ n. is_one_of n (settling (suc k) s qs ends) ≡ true) (let same : suc k + j ≡ k + suc j = omega arith in same) (settling_has (suc k) j s qs ends (record { query = i.query; there = i.there; unended = i.unended; met = i.met })))
  where
    split : (b : Bool) → is_one_of (k + suc j) (settling (suc k) s qs ends) ≡ true → is_one_of (k + suc j) ((if b then k ∷ [] else []) ++ settling (suc k) s qs ends) ≡ true
    split true h = or_later (k == (k + suc j)) h
    split false h = h

-- Who is told

-- the accounts have the same queries, and from j on the same notifiers
pub record AgreesFrom {N : Type 0} (j : ℕ) (a b : Account N) : Type 0 where
  pub queries : a.queries ≡ b.queries
  pub armed : (n : ℕ) → j ≤ n → slice_get a.armed n ≡ slice_get b.armed n

ended_agrees : {N : Type 0} (at : ℕ) (s : ℕ → Stand) (k : ℕ) (a b : Account N) → AgreesFrom k a b → AgreesFrom (k + 1) (ended_one at s k a) b
ended_agrees {N} at s k a b g = split (slice_get a.queries k)
  where
    split : (o : Option Query) → AgreesFrom (k + 1) (option_map_or (λ q. record { queries = a.queries; ends = set a.ends k (Some (record { at = at; end = Rattle.query_book.specs.Stands.ending s q })); armed = set a.armed k None; due = a.due ++ Rattle.std.specs.Prelude.option_to_list (Rattle.query_book.specs.Rows.unit_of q) }) o a) b
    split None = record { queries = g.queries; armed = λ n c. g.armed n (omega (arith, c)) }
    split (Some q) = record { queries = g.queries; armed = λ n c. set_elsewhere a.armed k n None (λ e. absurd (omega (arith, e, c))) ∙ g.armed n (omega (arith, c)) }

fired_same : {N : Type 0} (at : ℕ) (s : ℕ → Stand) (k : ℕ) (a b : Account N) → AgreesFrom k a b → fired_one at s k a ≡ fired_one at s k b
fired_same at s k a b g = ap₂ (λ (o : Option (Option (Unheard _))) (p : Option Query). option_map_or (λ q. notices (option_and_then (λ o. o) o) (outcome_of at s k q)) p []) (g.armed k (le_refl k)) (ap (λ qs. slice_get qs k) g.queries)

pub fired_each : {N : Type 0} (at : ℕ) (s : ℕ → Stand) (j : ℕ) (ks : List ℕ) (a b : Account N) → AreRising j ks → AgreesFrom j a b → fired_all at s ks a ≡ flat_map (λ k. fired_one at s k b) ks
fired_each at s j [] a b r g = refl
fired_each at s j (k ∷ ks) a b r g =
    let here : AgreesFrom k a b = record { queries = g.queries; armed = λ n c. g.armed n (omega (arith, c, r.0)) } in
    ap₂ (λ xs ys. xs ++ ys) (fired_same at s k a b here) (fired_each at s (k + 1) ks (ended_one at s k a) b r.1 (ended_agrees at s k a b here))

flat_same : {X Y : Type 0} (f g : X → List Y) (xs : List X) → ((x : X) → f x ≡ g x) → flat_map f xs ≡ flat_map g xs
flat_same f g [] h = refl
flat_same f g (x ∷ xs) h = ap₂ (λ a b. a ++ b) (h x) (flat_same f g xs h)

-- Who keeps his notifier

left_one : {N : Type 0} (at : ℕ) (s : ℕ → Stand) (n k : ℕ) (a : Account N) (q : Query) → slice_get a.queries n ≡ Some q → slice_get (ended_one at s n a).armed k ≡ option_map (λ o. if n == k then None else o) (slice_get a.armed k)
left_one {N} at s n k a q t = ap (λ (b : Account N). slice_get b.armed k) is ∙ cases (cases_eq k n)
  where
    is : ended_one at s n a ≡ record { queries = a.queries; ends = set a.ends n (Some (record { at = at; end = Rattle.query_book.specs.Stands.ending s q })); armed = set a.armed n None; due = a.due ++ Rattle.std.specs.Prelude.option_to_list (Rattle.query_book.specs.Rows.unit_of q) }
    is = ap (λ o. option_map_or (λ q. record { queries = a.queries; ends = set a.ends n (Some (record { at = at; end = Rattle.query_book.specs.Stands.ending s q })); armed = set a.armed n None; due = a.due ++ Rattle.std.specs.Prelude.option_to_list (Rattle.query_book.specs.Rows.unit_of q) }) o a) t

    at_place : (o : Option (Option (Unheard N))) → slice_get a.armed n ≡ o → slice_get (set a.armed n None) n ≡ option_map (λ (o : Option (Unheard N)). None) o
    at_place None e = none_set a.armed n e
      where
        none_set : (xs : List (Option (Unheard N))) (i : ℕ) → slice_get xs i ≡ None → slice_get (set xs i None) i ≡ None
        none_set [] i e = refl
        none_set (x ∷ xs) zero e = absurd (none-some x (sym e))
        none_set (x ∷ xs) (suc i) e = none_set xs i e
    at_place (Some o) e = set_there a.armed n None (element_below a.armed n o e)

    cases : (k ≡ n) ⊎ (k ≡ n → ⊥) → slice_get (set a.armed n None) k ≡ option_map (λ o. if n == k then None else o) (slice_get a.armed k)
    cases (inl e) = subst (λ i. slice_get (set a.armed n None) i ≡ option_map (λ o. if n == i then None else o) (slice_get a.armed i)) (sym e)
        (at_place (slice_get a.armed n) refl ∙ ap (λ b. option_map (λ (o : Option (Unheard N)). if b then None else o) (slice_get a.armed n)) (sym (eq-eqb n n refl)))
    cases (inr u) = set_elsewhere a.armed n k None u ∙ (unmapped (slice_get a.armed k) ∙ ap (λ b. option_map (λ (o : Option (Unheard N)). if b then None else o) (slice_get a.armed k)) (sym (ne_eqb n k (λ e. u (sym e)))))

ended_queries : {N : Type 0} (at : ℕ) (s : ℕ → Stand) (k : ℕ) (a : Account N) → (ended_one at s k a).queries ≡ a.queries
ended_queries {N} at s k a = split (slice_get a.queries k)
  where
    split : (o : Option Query) → (option_map_or (λ q. record { queries = a.queries; ends = set a.ends k (Some (record { at = at; end = Rattle.query_book.specs.Stands.ending s q })); armed = set a.armed k None; due = a.due ++ Rattle.std.specs.Prelude.option_to_list (Rattle.query_book.specs.Rows.unit_of q) }) o a).queries ≡ a.queries
    split None = refl
    split (Some q) = refl

pub left_all : {N : Type 0} (at : ℕ) (s : ℕ → Stand) (ks : List ℕ) (k : ℕ) (a : Account N) → ((n : ℕ) → is_one_of n ks ≡ true → (q : Query) × (slice_get a.queries n ≡ Some q)) → slice_get (ended_all at s ks a).armed k ≡ option_map (λ o. if is_one_of k ks then None else o) (slice_get a.armed k)
left_all {N} at s [] k a h = unmapped (slice_get a.armed k)
left_all {N} at s (n ∷ ns) k a h = left_all at s ns k (ended_one at s n a) (λ i c. let p = h i (or_later (n == i) c) in (p.0, ap (λ qs. slice_get qs i) (ended_queries at s n a) ∙ p.1))
    ∙ (ap (option_map (λ o. if is_one_of k ns then None else o)) (let p = h n (or_left (n == n) (is_one_of n ns) (eq-eqb n n refl)) in left_one at s n k a p.0 p.1) ∙ both (n == k) (is_one_of k ns) (slice_get a.armed k))
  where
    both : (b c : Bool) (o : Option (Option (Unheard N))) → option_map (λ o. if c then None else o) (option_map (λ o. if b then None else o) o) ≡ option_map (λ o. if b || c then None else o) o
    both b c None = refl
    both true true (Some o) = refl
    both true false (Some o) = refl
    both false c (Some o) = refl

-- Together

-- what the session's words say of a notifier
one_notice : {N : Type 0} (n : Plain) (at : ℕ) (rows : List InstRow) (a : Account N) (k : ℕ) → at ≡ n.entries → rows ≡ n.rows → a.queries ≡ n.queries → fired_one at (stand_at rows) k a ≡ notice_of n a.armed k
one_notice {N} n at rows a k count same qs = split (slice_get a.queries k) ∙ ap (λ (qs : List Query). option_map_or (λ q. notices (option_and_then (λ o. o) (slice_get a.armed k)) (record { query = record { 0 = k }; end = told_end n.entries (session.ending n.rows q) })) (slice_get qs k) []) qs
  where
    ends : (q : Query) → told_end at (Rattle.query_book.specs.Stands.ending (stand_at rows) q) ≡ told_end n.entries (session.ending n.rows q)
    ends q = ap₂ told_end count ((stands_same rows).ends q ∙ ap (λ rs. session.ending rs q) same)

    split : (o : Option Query) → option_map_or (λ q. notices (option_and_then (λ o. o) (slice_get a.armed k)) (outcome_of at (stand_at rows) k q)) o [] ≡ option_map_or (λ q. notices (option_and_then (λ o. o) (slice_get a.armed k)) (record { query = record { 0 = k }; end = told_end n.entries (session.ending n.rows q) })) o []
    split None = refl
    split (Some q) = ap (λ end. notices (option_and_then (λ o. o) (slice_get a.armed k)) (record { query = record { 0 = k }; end = end })) (ends q)

-- The book before the entry had the ends of the shorter history, but for a new query; after it, it has those of the longer one.
pub record Told {N : Type 0} (h : List (Entry Meaning)) (e : Entry Meaning) (old new : Ledger N) : Type 0 where
  pub before : List (Option QueryEnd)
  pub had : AreEnds h before
  pub grown : (k : ℕ) (end : QueryEnd) → slice_get old.ends k ≡ Some (Some end) → slice_get before k ≡ Some (Some end)
  pub queries : old.queries ≡ (state (h ++ e ∷ [])).queries
  pub counted : length old.ends ≡ length old.queries
  pub has : AreEnds (h ++ e ∷ []) new.ends
  pub noted : new.ends ≡ noted (state (h ++ e ∷ [])) (state (h ++ e ∷ [])).queries old.ends

pub settles_exactly : {N : Type 0} (h : List (Entry Meaning)) (e : Entry Meaning) (old new : Ledger N) → Told h e old new → (k : ℕ) → (is_one_of k (settling 0 (stand_at (state (h ++ e ∷ [])).rows) old.queries old.ends) ≡ true) ↔ SettlesNow (h ++ e ∷ []) k
settles_exactly {N} h e old new t k = (λ c. now (settling_is 0 k (stand_at n.rows) old.queries old.ends c), λ w. listed w (end_at w))
  where
    h' : List (Entry Meaning)
    h' = h ++ e ∷ []

    n : Plain
    n = state h'

    counted : n.entries ≡ length h'
    counted = entries_are h'

    noted_here : (q : Query) (end : Option QueryEnd) → slice_get n.queries k ≡ Some q → slice_get new.ends k ≡ Some end → end ≡ noted_end n q (kept_end old.ends k)
    noted_here q end a b = noted_at n n.queries old.ends k q end a (ap (λ es. slice_get es k) (sym t.noted) ∙ b)

    end_here : (q : Query) → slice_get n.queries k ≡ Some q → (end : Option QueryEnd) × (slice_get new.ends k ≡ Some end)
    end_here q a = row_below new.ends k (subst (λ m. k < m) (sym t.has.count) (element_below n.queries k q a))

    now : (j : ℕ) × (k ≡ 0 + j) × IsSettling (stand_at n.rows) old.queries old.ends j → SettlesNow h' k
    now (j, at, i) = (i.query, there, settles)
      where
        same : k ≡ j
        same = omega (arith, at)

        there : slice_get n.queries k ≡ Some i.query
        there = ap (λ qs. slice_get qs k) (sym t.queries) ∙ (ap (slice_get old.queries) same ∙ i.there)

        met : is_met (stand_at n.rows) i.query ≡ session.is_met n.rows i.query
        met = (stands_same n.rows).met i.query

        open_here : kept_end old.ends k ≡ None
        open_here = ap (λ o. option_map_or (λ (end : Option QueryEnd). end) o None) (ap (slice_get old.ends) same ∙ i.unended)

        end : (end : Option QueryEnd) × (slice_get new.ends k ≡ Some end)
        end = end_here i.query there

        ended : end.0 ≡ Some (record { at = n.entries; end = session.ending n.rows i.query })
        ended = noted_here i.query end.0 there end.1 ∙ (ap (noted_end n i.query) open_here ∙ ap (λ b. if b then Some (record { at = n.entries; end = session.ending n.rows i.query }) else None) (sym met ∙ i.met))

        is_end : IsEnd h' k n.entries (session.ending n.rows i.query)
        is_end = t.has.each k i.query (Some (record { at = n.entries; end = session.ending n.rows i.query })) there (end.1 ∙ ap Some ended)

        settles : SettlesAt h' i.query (length h')
        settles = subst (λ m. SettlesAt h' i.query m) counted (subst (λ q. SettlesAt h' q n.entries) (same_element (slice_get n.queries k) is_end.query i.query is_end.there there) is_end.settles)

    end_at : (w : SettlesNow h' k) → (end : Option QueryEnd) × (slice_get new.ends k ≡ Some end)
    end_at w = end_here w.0 w.1

    listed : (w : SettlesNow h' k) → (end : Option QueryEnd) × (slice_get new.ends k ≡ Some end) → is_one_of k (settling 0 (stand_at n.rows) old.queries old.ends) ≡ true
    listed w (None, b) = absurd (both_ways (session.is_met (state (take (length h') h')).rows w.0) ((t.has.each k w.0 None w.1 b).unmet (length h') w.2.from (le_refl (length h'))) w.2.met)
    listed w (Some end, b) = by (slice_get old.ends k) refl
      where
        is_end : IsEnd h' k end.at end.end
        is_end = t.has.each k w.0 (Some end) w.1 b

        at_last : end.at ≡ length h'
        at_last = (end_is_unique h' k end.at (length h') end.end (session.ending (state (take (length h') h')).rows w.0) is_end (record { query = w.0; there = w.1; settles = w.2; ends = refl })).0

        said : Some end ≡ noted_end n w.0 (kept_end old.ends k)
        said = noted_here w.0 (Some end) w.1 b

        is_unended : slice_get old.ends k ≡ Some None → is_one_of k (settling 0 (stand_at n.rows) old.queries old.ends) ≡ true
        is_unended o = met (session.is_met n.rows w.0) refl
          where
            said_none : Some end ≡ (if session.is_met n.rows w.0 then Some (record { at = n.entries; end = session.ending n.rows w.0 }) else None)
            said_none = said ∙ ap (λ p. noted_end n w.0 (option_map_or (λ (end : Option QueryEnd). end) p None)) o

            met : (b : Bool) → session.is_met n.rows w.0 ≡ b → is_one_of k (settling 0 (stand_at n.rows) old.queries old.ends) ≡ true
            met true m = subst (λ i. is_one_of i (settling 0 (stand_at n.rows) old.queries old.ends) ≡ true) (let same : 0 + k ≡ k = omega arith in same)
                (settling_has 0 k (stand_at n.rows) old.queries old.ends (record { query = w.0; there = ap (λ qs. slice_get qs k) t.queries ∙ w.1; unended = o; met = (stands_same n.rows).met w.0 ∙ m }))
            met false m = absurd (none-some end (sym (said_none ∙ ap (λ b. if b then Some (record { at = n.entries; end = session.ending n.rows w.0 }) else None) m)))

        by : (o : Option (Option QueryEnd)) → slice_get old.ends k ≡ o → is_one_of k (settling 0 (stand_at n.rows) old.queries old.ends) ≡ true
        by None o = absurd (none-some (row_below old.ends k within).0 (sym o ∙ (row_below old.ends k within).1))
          where
            within : k < length old.ends
            within = omega (arith, t.counted, element_below old.queries k w.0 (ap (λ qs. slice_get qs k) t.queries ∙ w.1))
        by (Some None) o = is_unended o
        by (Some (Some past)) o = absurd (omega (arith, at_last, ap (λ (x : QueryEnd). x.at) same, early, length-append h (e ∷ [])))
          where
            same : end ≡ past
            same = same_Some end past (said ∙ ap (λ p. noted_end n w.0 (option_map_or (λ (end : Option QueryEnd). end) p None)) o)

            before : slice_get t.before k ≡ Some (Some past)
            before = t.grown k past o

            query : (q : Query) × (slice_get (state h).queries k ≡ Some q)
            query = row_below (state h).queries k (subst (λ m. k < m) t.had.count (element_below t.before k (Some past) before))

            early : past.at ≤ length h
            early = (t.had.each k query.0 (Some past) query.1 before).settles.here

pub fires_are : {N : Type 0} (h : List (Entry Meaning)) (e : Entry Meaning) (rows : List InstRow) (old new : Ledger N) (at : ℕ) (fires : List (Notice N)) → Told h e old new → at ≡ length (h ++ e ∷ []) → rows ≡ (state (h ++ e ∷ [])).rows → fires ≡ fires_of at (stand_at rows) old → new.armed ≡ (settled at (stand_at rows) old).armed → AreFires (h ++ e ∷ []) old.armed new.armed fires
fires_are {N} h e rows old new at fires t count same fired left = record {
  numbers = numbers;
  rising = settling_rises 0 (stand_at n.rows) old.queries old.ends;
  settle = settles_exactly h e old new t;
  told = fired ∙ (ap (λ rs. fires_of at (stand_at rs) old) same ∙ (fired_each at (stand_at n.rows) 0 numbers (account old) (account old) (settling_rises 0 (stand_at n.rows) old.queries old.ends) (record { queries = refl; armed = λ i b. refl })
      ∙ flat_same (λ k. fired_one at (stand_at n.rows) k (account old)) (notice_of n old.armed) numbers (λ k. one_notice n at n.rows (account old) k (count ∙ sym (entries_are (h ++ e ∷ []))) refl t.queries)));
  others = λ k. ap (λ armed. slice_get armed k) (left ∙ ap (λ rs. (settled at (stand_at rs) old).armed) same) ∙ left_all at (stand_at n.rows) numbers k (account old) (λ i c. let w = settling_is 0 i (stand_at n.rows) old.queries old.ends c in (w.2.query, ap (slice_get old.queries) (let at : i ≡ w.0 = omega (arith, w.1) in at) ∙ w.2.there));
}
  where
    n : Plain
    n = state (h ++ e ∷ [])

    numbers : List ℕ
    numbers = settling 0 (stand_at n.rows) old.queries old.ends
