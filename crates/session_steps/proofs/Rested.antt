-- One more entry: why its parts may settle, and that the session is at rest again.
use Rattle.std.proofs.Common.{◌≡◌, ℕ, ◌+◌, ◌≤◌, ◌<◌, ◌⊎◌, inl, inr, Bool, true, false, ◌||◌, List, [], ◌∷◌, ◌++◌, length, slice_get, Option, Some, None, refl, ap, ap₂, sym, subst, ◌∙◌, arith}
use Rattle.std.specs.Bool.{if◌then◌else◌}
use Rattle.std.specs.Prelude.{◌==◌}
use Rattle.std.specs.Option.{option_map_or}
use Rattle.std.proofs.lemmas.Bool.{eqb-true}
use Rattle.std.proofs.lemmas.Option.{none-some, same_Some}
use Rattle.std.proofs.lemmas.List.{length-append}
use Rattle.orc_ids.specs.declared.ids.InstId.{InstId}
use Rattle.orc_ids.specs.declared.ids.UnitId.{UnitId}
use Rattle.orc_ids.specs.declared.lookup.Level.{Level}
use Rattle.session_model.specs.Meaning.{Meaning}
use Rattle.session_model.specs.Plain.{Plain, UnitRow, empty, present_at, row_test}
use Rattle.session_model.specs.Query.{stand_at, is_met, ending}
use Rattle.session_model.specs.Query as session
use Rattle.session_model.specs.State.{after, state, state_from, plain_event, plain_entry, plain_history}
use Rattle.session_model.specs.Change.{change_of, changed, settled, all_claimed, waiting_unit}
use Rattle.session_model.specs.History.{IsLegal, HasPlaces, HasPlacesFrom, is_full}
use Rattle.session_model.specs.declared.change.Change.{Change}
use Rattle.session_model.specs.declared.change.Change.TheVariants as change
use Rattle.session_model.specs.declared.entry.Entry.{Entry}
use Rattle.session_model.specs.declared.rows.InstRow.{InstRow}
use Rattle.session_model.specs.declared.rows.Query.{Query}
use Rattle.session_model.specs.declared.rows.UnitPhase.TheVariants as stage
use Rattle.session_laws.specs.Sound.{IsSound, AllMatched, searched_at}
use Rattle.session_laws.proofs.Declared.{state_from_push, one_more_legal, same_element, element_below, front_some, pushed_cases, pushed_last, changed_cases, entries_are, all_claimed_queries, legal_is_sound, no_met_waits, is_link, change_before, claims_before, settled_rows, settled_queries}
use Rattle.closure_laws.proofs.Declared.{settled_fields, levels_stay, losses_stay, unit_is_linked_once, settled_there}
use Rattle.query_book.specs.declared.ends.QueryEnd.{QueryEnd}
use Rattle.query_book.specs.Ledger.{Ledger, IsAwaited, IsCurrent, IsChange, IsTold}
use Rattle.query_book.specs.Stands.{at_level, is_lost, is_matched}
use Rattle.query_book.proofs.Current.{change_told}
use Rattle.query_book.proofs.Session.{stands_same}
use Rattle.session_parts.specs.declared.parts.Parts.{Parts}
use Rattle.session_parts.specs.Dues.{WaitsOpen, WaitsOwn}
use Rattle.session_parts.specs.Ends.{noted, noted_end, AreEnds}
use Rattle.session_parts.specs.Parts.{AreParts}
use Rattle.session_parts.proofs.Dues.{waits_stay_open}
use Rattle.session_parts.proofs.Ending.{ends_grow}
use Rattle.session_steps.specs.Performs.{state_of}
use Rattle.session_steps.proofs.Counting.{free_place, plain_length}
use Rattle.session_steps.proofs.Telling.{Told}
use Rattle.session_steps.specs.Rest.{AllLawful, IsAtRest}
use Rattle.session_steps.specs.Moved.{next, BookMoved, Same, Lodged, CanEnter}

-- Histories

pub plain_push : {U : Type 0} (means : U → Meaning) (h : List (Entry U)) (e : Entry U) → plain_history means (h ++ e ∷ []) ≡ plain_history means h ++ plain_entry means e ∷ []
plain_push means [] e = refl
plain_push means (g ∷ gs) e = ap (λ es. plain_entry means g ∷ es) (plain_push means gs e)

places_push : (jmax : ℕ) (m : Plain) (h : List (Entry Meaning)) (e : Entry Meaning) → HasPlacesFrom jmax m h → is_full jmax (state_from m h) e.seat.0 e.event ≡ false → HasPlacesFrom jmax m (h ++ e ∷ [])
places_push jmax m [] e p f = (f, tt)
places_push jmax m (g ∷ gs) e p f = (p.0, places_push jmax (after m g) gs e p.1 f)

pub leads : {U : Type 0} (means : U → Meaning) (h : List (Entry U)) (e : Entry U) → state_of means (h ++ e ∷ []) ≡ record (settled (next means h e)) { entries = (state_of means h).entries + 1 }
leads means h e = ap state (plain_push means h e) ∙ state_from_push empty (plain_history means h) (plain_entry means e)

pub rows_after : {U : Type 0} (means : U → Meaning) (h : List (Entry U)) (e : Entry U) → (state_of means (h ++ e ∷ [])).rows ≡ (next means h e).rows
rows_after means h e = ap (λ (m : Plain). m.rows) (leads means h e) ∙ settled_rows (next means h e)

pub queries_after : {U : Type 0} (means : U → Meaning) (h : List (Entry U)) (e : Entry U) → (state_of means (h ++ e ∷ [])).queries ≡ (next means h e).queries
queries_after means h e = ap (λ (m : Plain). m.queries) (leads means h e) ∙ settled_queries (next means h e)

pub counted_after : {U : Type 0} (means : U → Meaning) (h : List (Entry U)) (e : Entry U) → (state_of means (h ++ e ∷ [])).entries ≡ length (h ++ e ∷ [])
counted_after means h e = entries_are (plain_history means (h ++ e ∷ [])) ∙ plain_length means (h ++ e ∷ [])

-- What is matched

matched_holds : (P : ℕ → Type 0) (os : List (Option InstId)) (i : ℕ) → AllMatched P os → is_matched i os ≡ true → P i
matched_holds P [] i a e = absurd cc
matched_holds P (None ∷ os) i a e = matched_holds P os i a e
matched_holds P (Some j ∷ os) i a e = split (j.0 == i) refl e (matched_holds P os i a.1)
  where
    split : (b : Bool) → (j.0 == i) ≡ b → (b || is_matched i os) ≡ true → (is_matched i os ≡ true → P i) → P i
    split true t h rest = subst P (eqb-true j.0 i t) a.0
    split false t h rest = rest h

there_below : (test : InstRow → Bool) (rows : List InstRow) (i : ℕ) → row_test test rows i ≡ true → i < length rows
there_below test rows i e = split (slice_get rows i) refl e
  where
    split : (o : Option InstRow) → slice_get rows i ≡ o → option_map_or test o false ≡ true → i < length rows
    split None t h = absurd cc
    split (Some r) t h = element_below rows i r t

-- Ends that are noted

same_end : (c d : Plain) → c.rows ≡ d.rows → c.entries ≡ d.entries → (q : Query) (end : Option QueryEnd) → noted_end c q end ≡ noted_end d q end
same_end c d e f q (Some end) = refl
same_end c d e f q None = ap₂ (λ (rows : List InstRow) (at : ℕ). if is_met rows q then Some (record { at = at; end = ending rows q }) else None) e f

noted_same : (a b : Plain) → a.rows ≡ b.rows → a.entries ≡ b.entries → (qs : List Query) (ends : List (Option QueryEnd)) → noted a qs ends ≡ noted b qs ends
noted_same a b r n [] ends = refl
noted_same a b r n (q ∷ qs) [] = ap₂ (λ x xs. x ∷ xs) (same_end a b r n q None) (noted_same a b r n qs [])
noted_same a b r n (q ∷ qs) (end ∷ ends) = ap₂ (λ x xs. x ∷ xs) (same_end a b r n q end) (noted_same a b r n qs ends)

noted_pushed : (m : Plain) (qs : List Query) (ends : List (Option QueryEnd)) → length ends < length qs → noted m qs (ends ++ None ∷ []) ≡ noted m qs ends
noted_pushed m [] ends b = absurd (omega (arith, b))
noted_pushed m (q ∷ qs) [] b = refl
noted_pushed m (q ∷ qs) (end ∷ ends) b = ap (λ xs. noted_end m q end ∷ xs) (noted_pushed m qs ends (omega (arith, b)))

-- What an entry finds

pub record Entering {U N : Type 0} (means : U → Meaning) (jmax : ℕ) (h : List (Entry U)) (e : Entry U) (before p : Parts U N) : Type 0 where
  pub legal : IsLegal jmax (plain_history means (h ++ e ∷ []))
  pub told : IsTold (stand_at (next means h e).rows) p.graph.changed p.book
  pub counted : length p.book.ends ≡ length (next means h e).queries
  pub waits : WaitsOpen (next means h e) p.book.ends
  pub own : WaitsOwn (next means h e).queries (next means h e).units
  pub due : p.book.due ≡ []
  -- the ends noted with the new query's place, or without it
  pub ends : (n : Plain) → noted n (next means h e).queries p.book.ends ≡ noted n (next means h e).queries before.book.ends

pub entering : {U N : Type 0} (means : U → Meaning) (jmax : ℕ) (h : List (Entry U)) (capacity : ℕ) (e : Entry U) (p : Parts U N) → (c : CanEnter means jmax h capacity e p) → Entering means jmax h e c.before p
entering {U} {N} means jmax h capacity e p c = record {
  legal = legal;
  told = change_told p.graph.changed (stand_at m.rows) (stand_at m'.rows) p.book current stands;
  counted = counted c.goes.book;
  waits = waits;
  own = own;
  due = due c.goes.book;
  ends = λ n. ends n c.goes.book;
}
  where
    m : Plain
    m = state_of means h

    m' : Plain
    m' = next means h e

    before : Parts U N
    before = c.before

    ch : Change Meaning
    ch = change_of m e.seat.0 (plain_event means e.event) e.reply

    legal : IsLegal jmax (plain_history means (h ++ e ∷ []))
    legal = subst (IsLegal jmax) (sym (plain_push means h e)) ((one_more_legal jmax (plain_history means h) (plain_entry means e)).0 c.rest.legal c.answered)

    legal_push : IsLegal jmax (plain_history means h ++ plain_entry means e ∷ [])
    legal_push = subst (IsLegal jmax) (plain_push means h e) legal

    sound : IsSound m
    sound = legal_is_sound jmax (plain_history means h) c.rest.legal

    rows' : (state (plain_history means h ++ plain_entry means e ∷ [])).rows ≡ m'.rows
    rows' = ap (λ g. (state g).rows) (sym (plain_push means h e)) ∙ rows_after means h e

    -- The book

    current : IsCurrent (stand_at m.rows) p.book
    current = by c.goes.book
      where
        by : BookMoved m before.book p.book → IsCurrent (stand_at m.rows) p.book
        by (Same s) = subst (IsCurrent (stand_at m.rows)) (sym s) c.rest.current
        by (Lodged l) = l.current c.rest.current

    had : length before.book.ends ≡ length before.book.queries
    had = c.rest.ends.count ∙ ap length (sym c.rest.queries)

    counted : BookMoved m before.book p.book → length p.book.ends ≡ length m'.queries
    counted (Same s) = ap (λ (b : Ledger N). length b.ends) s ∙ (had ∙ (ap (λ (b : Ledger N). length b.queries) (sym s) ∙ ap length c.goes.queries))
    counted (Lodged l) = ap (λ (b : Ledger N). length b.ends) l.book ∙ (length-append before.book.ends (None ∷ []) ∙ (ap (λ n. n + 1) had ∙ (sym (length-append before.book.queries (l.query ∷ [])) ∙ (ap (λ (b : Ledger N). length b.queries) (sym l.book) ∙ ap length c.goes.queries))))

    due : BookMoved m before.book p.book → p.book.due ≡ []
    due (Same s) = ap (λ (b : Ledger N). b.due) s ∙ c.rest.due
    due (Lodged l) = ap (λ (b : Ledger N). b.due) l.book ∙ c.rest.due

    ends : (n : Plain) → BookMoved m before.book p.book → noted n m'.queries p.book.ends ≡ noted n m'.queries before.book.ends
    ends n (Same s) = ap (λ (b : Ledger N). noted n m'.queries b.ends) s
    ends n (Lodged l) = ap (λ (b : Ledger N). noted n m'.queries b.ends) l.book ∙ noted_pushed n m'.queries before.book.ends (omega (arith, had, count))
      where
        count : length m'.queries ≡ length before.book.queries + 1
        count = ap length (sym c.goes.queries) ∙ (ap (λ (b : Ledger N). length b.queries) l.book ∙ length-append before.book.queries (l.query ∷ []))

    -- What stands otherwise

    old_below : (i k : ℕ) (q : Query) → slice_get before.book.queries k ≡ Some q → is_matched i q.matched ≡ true → i < length m.rows
    old_below i k q t f = there_below (λ r. Rattle.std.specs.Prelude.not (Rattle.session_model.specs.Plain.is_unsearched r.phase)) m.rows i (matched_holds (λ j. searched_at m.rows j ≡ true) q.matched i (sound.searched k q (ap (λ qs. slice_get qs k) (sym c.rest.queries) ∙ t)) f)

    below : (i : ℕ) → IsAwaited p.book i → i < length m.rows
    below i a = by c.goes.book
      where
        by : BookMoved m before.book p.book → i < length m.rows
        by (Same s) = old_below i a.number a.query (ap (λ (b : Ledger N). slice_get b.queries a.number) (sym s) ∙ a.there) a.matches
        by (Lodged l) = cases (pushed_cases before.book.queries l.query a.number a.query (ap (λ (b : Ledger N). slice_get b.queries a.number) (sym l.book) ∙ a.there))
          where
            cases : (slice_get before.book.queries a.number ≡ Some a.query) ⊎ ((a.number ≡ length before.book.queries) × (a.query ≡ l.query)) → i < length m.rows
            cases (inl t) = old_below i a.number a.query t a.matches
            cases (inr t) = there_below (λ r. r.present) m.rows i (matched_holds (λ j. present_at m.rows j ≡ true) l.query.matched i l.here (ap (λ (q : Query). is_matched i q.matched) (sym t.1) ∙ a.matches))

    stands : IsChange p.graph.changed (stand_at m.rows) (stand_at m'.rows) p.book
    stands = record {
      others = λ i a n. ap (λ rows. stand_at rows i) (sym c.goes.parts.kept.rows) ∙ (c.goes.tells.stands i (subst (λ rows. i < length rows) (sym c.rest.parts.kept.rows) (below i a)) n ∙ ap (λ rows. stand_at rows i) c.rest.parts.kept.rows);
      stays = λ lev i a t. stays lev i (levels_stay jmax (plain_history means h) (plain_entry means e ∷ []) legal_push lev i (sym ((stands_same m.rows).levels lev i) ∙ t));
      lost = λ i a t. (stands_same m'.rows).losses i ∙ (ap (λ rows. session.is_lost rows i) (sym rows') ∙ losses_stay jmax (plain_history means h) (plain_entry means e ∷ []) legal_push i (below i a) (sym ((stands_same m.rows).losses i) ∙ t));
    }
      where
        stays : (lev : Level) (i : ℕ) → (session.at_level (state (plain_history means h ++ plain_entry means e ∷ [])).rows lev i ≡ true) ⊎ (session.is_lost (state (plain_history means h ++ plain_entry means e ∷ [])).rows i ≡ true) →
            (at_level (stand_at m'.rows) lev i ≡ true) ⊎ (is_lost (stand_at m'.rows) i ≡ true)
        stays lev i (inl t) = inl ((stands_same m'.rows).levels lev i ∙ (ap (λ rows. session.at_level rows lev i) (sym rows') ∙ t))
        stays lev i (inr t) = inr ((stands_same m'.rows).losses i ∙ (ap (λ rows. session.is_lost rows i) (sym rows') ∙ t))

    -- Units that wait

    kept_open : BookMoved m before.book p.book → (k : ℕ) → slice_get before.book.ends k ≡ Some None → slice_get p.book.ends k ≡ Some None
    kept_open (Same s) k t = ap (λ (b : Ledger N). slice_get b.ends k) s ∙ t
    kept_open (Lodged l) k t = ap (λ (b : Ledger N). slice_get b.ends k) l.book ∙ front_some before.book.ends (None ∷ []) k None t

    -- the query that a link lodged
    new_open : BookMoved m before.book p.book → length m'.queries ≡ length m.queries + 1 → slice_get p.book.ends (length m.queries) ≡ Some None
    new_open (Same s) n = absurd (omega (arith, n, same))
      where
        same : length m'.queries ≡ length m.queries
        same = ap length (sym c.goes.queries) ∙ (ap (λ (b : Ledger N). length b.queries) s ∙ ap length c.rest.queries)
    new_open (Lodged l) n = ap (λ (b : Ledger N). slice_get b.ends (length m.queries)) l.book ∙ (ap (slice_get (before.book.ends ++ None ∷ [])) (sym c.rest.ends.count) ∙ pushed_last before.book.ends None)

    waits : WaitsOpen m' p.book.ends
    waits u x k t w its = by ch refl
      where
        other : (is_link ch ≡ false) → slice_get p.book.ends k ≡ Some None
        other n = let was = change_before stage.Waiting refl ch (inl n) m u x t w in
            kept_open c.goes.book k (c.rest.waits u was.unit k was.there was.phase_is (was.query ∙ its))

        linking : (v : UnitId) (found : List (Option InstId)) → ch ≡ change.Link v found → slice_get p.book.ends k ≡ Some None
        linking v found is = cases (changed_cases v.0 (waiting_unit (length m.queries)) (all_claimed found m).units u x (ap (λ d. slice_get (changed d m).units u) (sym is) ∙ t))
          where
            count : length m'.queries ≡ length m.queries + 1
            count = ap (λ d. length (changed d m).queries) is ∙ (length-append (all_claimed found m).queries _ ∙ ap (λ qs. length qs + 1) (all_claimed_queries found m))

            cases : ((u ≡ v.0) × ((y : UnitRow) × (slice_get (all_claimed found m).units u ≡ Some y) × (x ≡ waiting_unit (length m.queries) y))) ⊎ ((u ≡ v.0 → ⊥) × (slice_get (all_claimed found m).units u ≡ Some x)) → slice_get p.book.ends k ≡ Some None
            cases (inl a) = subst (λ n. slice_get p.book.ends n ≡ Some None) (same_Some (length m.queries) k (ap (λ (y : UnitRow). y.query) (sym a.1.2) ∙ its)) (new_open c.goes.book count)
            cases (inr a) = let was = claims_before stage.Waiting refl found m u x a.1 w in
                kept_open c.goes.book k (c.rest.waits u was.unit k was.there was.phase_is (was.query ∙ its))

        by : (d : Change Meaning) → ch ≡ d → slice_get p.book.ends k ≡ Some None
        by (change.Link v found) is = linking v found is
        by change.Nothing is = other (ap is_link is)
        by (change.MakeDylib name) is = other (ap is_link is)
        by (change.MakeTracker d) is = other (ap is_link is)
        by (change.SetOrder d order) is = other (ap is_link is)
        by (change.Attach d t y) is = other (ap is_link is)
        by (change.Define d t y found) is = other (ap is_link is)
        by (change.Generate g found) is = other (ap is_link is)
        by (change.Spend g) is = other (ap is_link is)
        by (change.Ask found lev n) is = other (ap is_link is)
        by (change.Start s y) is = other (ap is_link is)
        by (change.Finish s y how) is = other (ap is_link is)
        by (change.Place y base) is = other (ap is_link is)
        by (change.Resolve y) is = other (ap is_link is)
        by (change.Emit y groups) is = other (ap is_link is)
        by (change.Fail y) is = other (ap is_link is)
        by (change.Move a b) is = other (ap is_link is)
        by (change.Remove a) is = other (ap is_link is)
        by (change.LetGo s y) is = other (ap is_link is)

    units' : (u : ℕ) → slice_get (state_of means (h ++ e ∷ [])).units u ≡ slice_get (settled m').units u
    units' u = ap (λ (n : Plain). slice_get n.units u) (leads means h e)

    own : WaitsOwn m'.queries m'.units
    own k u q x t l there w =
        let y = settled_there m' u x there in
        let was = settled_fields m' u y.0 y.1 in
        let same = same_element (slice_get m'.units u) was.0 x was.1 there in
        ap (λ (z : UnitRow). z.query) (sym same) ∙ (sym was.2.query ∙ unit_is_linked_once jmax (plain_history means (h ++ e ∷ [])) legal k u q y.0 (ap (λ qs. slice_get qs k) (queries_after means h e) ∙ t) l (units' u ∙ y.1))

-- After it

-- the number of entries plays no part in the parts
pub with_entries : {U N : Type 0} (means : U → Meaning) (p : Parts U N) (m : Plain) (n : ℕ) → AreParts means p m → AreParts means p (record m { entries = n })
with_entries means p m n a = record {
  kept = record { dylibs = a.kept.dylibs; rows = a.kept.rows; units = a.kept.units; jobs = a.kept.jobs; generators = a.kept.generators; owners = a.kept.owners; memory = a.kept.memory };
  spans = a.spans;
}

-- what settling leaves
pub record Settles {U N : Type 0} (means : U → Meaning) (m : Plain) (at : ℕ) (p q : Parts U N) : Type 0 where
  pub parts : AreParts means q (settled m)
  pub ends : q.book.ends ≡ noted (record m { entries = at }) m.queries p.book.ends
  pub queries : q.book.queries ≡ m.queries
  pub due : q.book.due ≡ []
  pub seen : Rattle.query_book.specs.Ledger.IsSeen (stand_at m.rows) q.book
  pub told : q.graph.changed ≡ []

noted_now : {U N : Type 0} (means : U → Meaning) (h : List (Entry U)) (e : Entry U) (p q : Parts U N) (at : ℕ) → at ≡ length (h ++ e ∷ []) → q.book.ends ≡ noted (record (next means h e) { entries = at }) (next means h e).queries p.book.ends →
    q.book.ends ≡ noted (state_of means (h ++ e ∷ [])) (state_of means (h ++ e ∷ [])).queries p.book.ends
noted_now means h e p q at count ends = ends ∙ (noted_same (record (next means h e) { entries = at }) (state_of means (h ++ e ∷ [])) (sym (rows_after means h e)) (count ∙ sym (counted_after means h e)) (next means h e).queries p.book.ends
    ∙ ap (λ qs. noted (state_of means (h ++ e ∷ [])) qs p.book.ends) (sym (queries_after means h e)))

pub rested : {U N : Type 0} (means : U → Meaning) (jmax : ℕ) (h : List (Entry U)) (capacity room : ℕ) (e : Entry U) (p q : Parts U N) (at : ℕ) → CanEnter means jmax h capacity e p → room ≡ capacity → at ≡ length (h ++ e ∷ []) → Settles means (next means h e) at p q → IsAtRest means jmax q (h ++ e ∷ []) room
rested {U} {N} means jmax h capacity room e p q at c wide count s = record {
  limit = c.rest.limit;
  room = subst (λ n. jmax ≤ n) (sym wide) c.rest.room;
  legal = step.legal;
  places = subst (HasPlaces jmax) (sym (plain_push means h e)) (places_push jmax empty (plain_history means h) (plain_entry means e) c.rest.places c.place);
  parts = subst (AreParts means q) (sym (leads means h e)) (with_entries means q (settled m') ((state_of means h).entries + 1) s.parts);
  lawful = subst AllLawful (sym (leads means h e)) (record { units = lawful.units; generators = lawful.generators });
  queries = s.queries ∙ sym (queries_after means h e);
  ends = subst (AreEnds (plain_history means (h ++ e ∷ []))) (sym noting) (subst (λ g. AreEnds g (noted (state g) (state g).queries c.before.book.ends)) (sym (plain_push means h e)) (ends_grow (plain_history means h) (plain_entry means e) c.before.book.ends c.rest.ends));
  current = subst (λ rows. IsCurrent (stand_at rows) q.book) (sym (rows_after means h e)) (Rattle.query_book.proofs.Current.seen_current (stand_at m'.rows) q.book s.seen);
  waits = subst (WaitsOpen n) (sym noting_here) (waits_stay_open m' n p.book.ends (ap (λ (a : Plain). a.rows) (leads means h e)) (ap (λ (a : Plain). a.queries) (leads means h e)) (ap (λ (a : Plain). a.units) (leads means h e))
      (legal_is_sound jmax (plain_history means (h ++ e ∷ [])) step.legal) (no_met_waits (plain_history means (h ++ e ∷ []))) step.waits);
  due = s.due;
  told = s.told;
}
  where
    m' : Plain
    m' = next means h e

    n : Plain
    n = state_of means (h ++ e ∷ [])

    step : Entering means jmax h e c.before p
    step = entering means jmax h capacity e p c

    lawful : AllLawful (settled m')
    lawful = Rattle.session_steps.proofs.Lawful.lawful_settled m' (Rattle.session_steps.proofs.Lawful.lawful_changed (change_of (state_of means h) e.seat.0 (plain_event means e.event) e.reply) (state_of means h) c.lawful c.rest.lawful)

    noting_here : q.book.ends ≡ noted n n.queries p.book.ends
    noting_here = noted_now means h e p q at count s.ends

    noting : q.book.ends ≡ noted n n.queries c.before.book.ends
    noting = noting_here ∙ (ap (λ qs. noted n qs p.book.ends) (queries_after means h e) ∙ (step.ends n ∙ ap (λ qs. noted n qs c.before.book.ends) (sym (queries_after means h e))))

-- there is a place for the entry
pub place_left : {U N : Type 0} (means : U → Meaning) (jmax : ℕ) (h : List (Entry U)) (capacity : ℕ) (e : Entry U) (p : Parts U N) → CanEnter means jmax h capacity e p → length h < capacity
place_left {U} means jmax h capacity e p c = omega (arith, c.rest.room, fits, counted)
  where
    m : Plain
    m = state_of means h

    counted : m.entries ≡ length h
    counted = entries_are (plain_history means h) ∙ plain_length means h

    fits : m.entries < jmax
    fits = free_place jmax m e.seat.0 (plain_event means e.event) c.place (Rattle.session_laws.proofs.Declared.kept_within jmax (plain_history means h) c.rest.legal c.rest.places)

-- what the book knows of the entry
pub told_by : {U N : Type 0} (means : U → Meaning) (jmax : ℕ) (h : List (Entry U)) (capacity room : ℕ) (e : Entry U) (p q : Parts U N) (at : ℕ) → CanEnter means jmax h capacity e p → at ≡ length (h ++ e ∷ []) →
    q.book.ends ≡ noted (record (next means h e) { entries = at }) (next means h e).queries p.book.ends → IsAtRest means jmax q (h ++ e ∷ []) room → Told (plain_history means h) (plain_entry means e) p.book q.book
told_by {U} {N} means jmax h capacity room e p q at c count ends rest = record {
  before = c.before.book.ends;
  had = c.rest.ends;
  grown = λ k end t. grown k end t c.goes.book;
  queries = queries;
  counted = (entering means jmax h capacity e p c).counted ∙ ap length (sym c.goes.queries);
  has = subst (λ g. AreEnds g q.book.ends) (plain_push means h e) rest.ends;
  noted = subst (λ g. q.book.ends ≡ noted (state g) (state g).queries p.book.ends) (plain_push means h e) (noted_now means h e p q at count ends);
}
  where
    grown : (k : ℕ) (end : QueryEnd) → slice_get p.book.ends k ≡ Some (Some end) → BookMoved (state_of means h) c.before.book p.book → slice_get c.before.book.ends k ≡ Some (Some end)
    grown k end t (Same s) = ap (λ (b : Ledger N). slice_get b.ends k) (sym s) ∙ t
    grown k end t (Lodged l) = cases (pushed_cases c.before.book.ends None k (Some end) (ap (λ (b : Ledger N). slice_get b.ends k) (sym l.book) ∙ t))
      where
        cases : (slice_get c.before.book.ends k ≡ Some (Some end)) ⊎ ((k ≡ length c.before.book.ends) × (Some end ≡ None)) → slice_get c.before.book.ends k ≡ Some (Some end)
        cases (inl a) = a
        cases (inr a) = absurd (none-some end (sym a.1))

    queries : p.book.queries ≡ (state (plain_history means h ++ plain_entry means e ∷ [])).queries
    queries = c.goes.queries ∙ (sym (queries_after means h e) ∙ ap (λ g. (state g).queries) (plain_push means h e))
