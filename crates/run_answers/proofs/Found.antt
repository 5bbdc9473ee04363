-- Where the client's lookup found the entry, its instance was ready, with the address that was found.
use Rattle.std.proofs.Common.{◌≡◌, ℕ, ◌+◌, ◌<◌, ◌≤◌, true, false, List, [], ◌∷◌, ◌++◌, length, slice_get, take, ◌⊎◌, inl, inr, refl, sym, ap, ◌∙◌, subst, arith, append_assoc, Option, Some, None, unwrap_or}
use Rattle.std.specs.Option.{option_map_or}
use Rattle.std.proofs.lemmas.Bool.{and_parts, both_ways, cases_eq}
use Rattle.std.proofs.lemmas.List.{length-append, take-append-le}
use Rattle.std.proofs.lemmas.Option.{same_Some}
use Rattle.orc_ids.specs.declared.ids.GenId.{GenId}
use Rattle.orc_ids.specs.declared.ids.InstId.{InstId}
use Rattle.orc_ids.specs.declared.ids.NameId.{NameId}
use Rattle.orc_ids.specs.declared.ids.QueryId.{QueryId}
use Rattle.orc_ids.specs.declared.lookup.Level.{Level}
use Rattle.orc_ids.specs.declared.lookup.Level.TheVariants.{Ready}
use Rattle.session_model.specs.Answer.{Answers, AnswersCollect}
use Rattle.session_model.specs.Calls.{EndsAsk, Looks, Works, lookup_event, numbered_calls}
use Rattle.session_model.specs.Calls.{Asks, Again}
use Rattle.session_model.specs.Change.{matched}
use Rattle.session_model.specs.History.{IsLegal}
use Rattle.session_model.specs.Match.{row_of}
use Rattle.session_model.specs.Meaning.{Meaning, Bindings}
use Rattle.session_model.specs.Plain.{Plain, address_at, is_emitted, phase_address}
use Rattle.session_model.specs.Query.{addresses, all_at}
use Rattle.session_model.specs.Reach.{IsReady, is_ready}
use Rattle.session_model.specs.State.{IsEnd, after, state}
use Rattle.session_model.specs.declared.entry.Entry.{Entry}
use Rattle.session_model.specs.declared.entry.Event.TheVariants as event
use Rattle.session_model.specs.declared.entry.Reply.TheVariants as reply
use Rattle.session_model.specs.declared.rows.Ending.TheVariants.{Found}
use Rattle.session_model.specs.declared.rows.InstRow.{InstRow}
use Rattle.session_model.specs.declared.rows.Phase.{Phase}
use Rattle.session_model.specs.declared.rows.Phase.TheVariants as phase
use Rattle.session_model.specs.declared.rows.Query.{Query}
use Rattle.session_model.specs.declared.rows.Row.{Row}
use Rattle.session_laws.proofs.Declared.{same_element, entries_are, ready_emitted, test_parts, ready_tested, call_first, call_skipped}
use Rattle.closure_laws.proofs.Declared.{FoundAt, found_parts}
use Rattle.memory_laws.proofs.Binding.{matched_by}
use Rattle.run_laws.specs.Runs.{IsRunBy, lookup_of}
use Rattle.run_laws.proofs.Asking.{AnswersLookup, Nowhere, Somewhere, lookup_answers}
use Rattle.run_laws.proofs.Ends.{Asked, ClientBegins, EndsCollected, asks, calls_later, client_begins, set_up_of, still_asked, works_end}
use Rattle.run_laws.proofs.Seats.{legal_at, never_empty, same_head, same_last, same_tail}

-- The place of a call in the history

-- the call's entry, the calls after it, and how its number counts the entries before it; the first of them is number n
pub record StandsAt (s n : ℕ) (es : List (Entry Meaning)) (c : ℕ × Entry Meaning) (later : List (ℕ × Entry Meaning)) : Type 0 where
  pub past : List (Entry Meaning)
  pub rest : List (Entry Meaning)
  pub parts : es ≡ past ++ c.1 ∷ rest
  pub number : c.0 ≡ n + length past
  pub calls : numbered_calls s (c.0 + 1) rest ≡ later

pub stands_at : (s n : ℕ) (es : List (Entry Meaning)) (before later : List (ℕ × Entry Meaning)) (c : ℕ × Entry Meaning) → numbered_calls s n es ≡ before ++ c ∷ later → StandsAt s n es c later
stands_at s n [] before later c e = never_empty before c later (sym e)
stands_at s n (x ∷ xs) before later c e = by_seat (λ front f. stands_at s (n + 1) xs front later c f) (cases_eq x.seat.0 s)
  where
    Before : Type 0
    Before = (front : List (ℕ × Entry Meaning)) → numbered_calls s (n + 1) xs ≡ front ++ c ∷ later → StandsAt s (n + 1) xs c later

    on : StandsAt s (n + 1) xs c later → StandsAt s n (x ∷ xs) c later
    on p = let is = p.number in record { past = x ∷ p.past; rest = p.rest; parts = ap (λ l. x ∷ l) p.parts; number = omega (arith, is); calls = p.calls }

    by_front : Before → (front : List (ℕ × Entry Meaning)) → (n, x) ∷ numbered_calls s (n + 1) xs ≡ front ++ c ∷ later → StandsAt s n (x ∷ xs) c later
    by_front stands [] f =
        let same : (n, x) ≡ c = same_head (n, x) c (numbered_calls s (n + 1) xs) later f in
        let number = ap (λ (d : ℕ × Entry Meaning). d.0) same in
        record {
          past = [];
          rest = xs;
          parts = ap (λ (d : ℕ × Entry Meaning). d.1 ∷ xs) same;
          number = omega (arith, number);
          calls = ap (λ (d : ℕ × Entry Meaning). numbered_calls s (d.0 + 1) xs) (sym same) ∙ same_tail (n, x) c (numbered_calls s (n + 1) xs) later f;
        }
    by_front stands (b ∷ bs) f = on (stands bs (same_tail (n, x) b (numbered_calls s (n + 1) xs) (bs ++ c ∷ later) f))

    by_seat : Before → (x.seat.0 ≡ s) ⊎ (x.seat.0 ≡ s → ⊥) → StandsAt s n (x ∷ xs) c later
    by_seat stands (inl is) = by_front stands before (sym (call_first s n x xs is) ∙ e)
    by_seat stands (inr apart) = on (stands before (sym (call_skipped s n x xs apart) ∙ e))

-- What was found

-- a ready instance has an address
ready_address : (rows : List InstRow) (i : ℕ) → IsReady rows i → address_at rows i ≡ Some (unwrap_or (address_at rows i) 0)
ready_address rows i ready = found (test_parts (λ (r : InstRow). is_emitted r.phase) rows i (ready_emitted rows i ready))
  where
    at_phase : (p : Phase) → is_emitted p ≡ true → phase_address p ≡ Some (unwrap_or (phase_address p) 0)
    at_phase (phase.Emitted a ds) e = refl
    at_phase phase.Unsearched e = absurd (both_ways false refl e)
    at_phase phase.Claimed e = absurd (both_ways false refl e)
    at_phase (phase.Resolved a) e = absurd (both_ways false refl e)
    at_phase phase.Failed e = absurd (both_ways false refl e)

    found : (r : InstRow) × (slice_get rows i ≡ Some r) × (is_emitted r.phase ≡ true) → address_at rows i ≡ Some (unwrap_or (address_at rows i) 0)
    found p = subst (λ o. option_map_or (λ (r : InstRow). phase_address r.phase) o None ≡ Some (unwrap_or (option_map_or (λ (r : InstRow). phase_address r.phase) o None) 0)) (sym p.1) (at_phase p.0.phase p.2)

matched_row : (name : ℕ) (o : Option Row) (i : InstId) → matched_by [] name o ≡ Some i → (row : Row) × (o ≡ Some row) × (row.inst ≡ i)
matched_row name None i e = absurd (cc)
matched_row name (Some r) i e = (r, refl, same_Some r.inst i e)

-- where there is no generator, a match is that of the name's row
row_matched : (m : Plain) (entry : NameId) (i : InstId) → m.generators ≡ [] → matched m (lookup_of entry).order (lookup_of entry).wanted ≡ Some i ∷ [] → (row : Row) × (row_of m.rows 0 entry.0 ≡ Some row) × (row.inst ≡ i)
row_matched m entry i none one = matched_row entry.0 (row_of m.rows 0 entry.0) i
    (ap (λ gs. matched_by gs entry.0 (row_of m.rows 0 entry.0)) (sym none) ∙ same_head (matched_by m.generators entry.0 (row_of m.rows 0 entry.0)) (Some i) [] [] one)

-- The entry's row after the set-up; after so many entries its instance was ready, with this address.
pub record EntryFound (h setup : List (Entry Meaning)) (entry : NameId) (m : ℕ) (i : InstId) (address : ℕ) : Type 0 where
  pub row : Row
  pub there : row_of (state setup).rows 0 entry.0 ≡ Some row
  pub is : row.inst ≡ i
  pub at : ℕ
  pub low : length setup ≤ at
  pub high : at < m
  pub ready : IsReady (state (take at h)).rows i.0
  pub has : address_at (state (take at h)).rows i.0 ≡ Some address

-- what the end of a query at Ready says that has one match
record OneFound (past : List (Entry Meaning)) (at : ℕ) (i : InstId) (matches : Bindings) : Type 0 where
  ready : IsReady (state (take at past)).rows i.0
  are : matches ≡ Some (i, unwrap_or (address_at (state (take at past)).rows i.0) 0) ∷ []

one_found : (past : List (Entry Meaning)) (at k : ℕ) (q : Query) (i : InstId) (matches : Bindings) → slice_get (state past).queries k ≡ Some q → q.level ≡ Ready → q.matched ≡ Some i ∷ [] → IsEnd past k at (Found matches) → OneFound past at i matches
one_found past at k q i matches there level one end = record { ready = (ready_tested rows i.0).0 test; are = f.are ∙ (ap (λ (r : Query). addresses rows r.matched) is ∙ ap (addresses rows) one) }
  where
    rows : List InstRow
    rows = (state (take at past)).rows

    is : end.query ≡ q
    is = same_element (slice_get (state past).queries k) end.query q end.there there

    f : FoundAt rows end.query matches
    f = found_parts rows end.query matches end.settles.met end.ends

    all : all_at rows Ready (Some i ∷ []) ≡ true
    all = ap (λ (l : Level). all_at rows l (Some i ∷ [])) (sym level) ∙ (ap (all_at rows q.level) (sym one) ∙ (ap (λ (r : Query). all_at rows r.level r.matched) (sym is) ∙ f.all))

    test : is_ready rows i.0 ≡ true
    test = (and_parts (is_ready rows i.0) true all).0

module _ (jmax : ℕ) (main entry : NameId) (units : List Meaning) (h setup later : List (Entry Meaning)) (run : IsRunBy jmax main units h setup later) where
  -- what is known of the first call of the client, and those that follow
  record AskFirst (f : Entry Meaning) (cs : List (ℕ × Entry Meaning)) : Type 0 where
    rest : List (Entry Meaning)
    parts : h ≡ setup ++ f ∷ rest
    calls : numbered_calls 1 (1 + length setup + 1) rest ≡ cs
    answers : AnswersLookup (state setup) entry f.reply

  ask_first : (n : ℕ) (f : Entry Meaning) (cs : List (ℕ × Entry Meaning)) → numbered_calls 1 1 h ≡ (n, f) ∷ cs → f.event ≡ lookup_event (lookup_of entry) → AskFirst f cs
  ask_first n f cs e is = record {
    rest = b.rest;
    parts = parts;
    calls = same_tail (1 + length setup, b.first) (n, f) (numbered_calls 1 (1 + length setup + 1) b.rest) cs calls;
    answers = lookup_answers (length units) (state setup) entry f.reply (set_up_of jmax main units h setup later run)
        (subst (λ v. Answers jmax setup (state setup) f.seat.0 v f.reply) is (legal_at jmax setup f b.rest (subst (IsLegal jmax) parts run.legal)).answers).2;
  }
    where
      b : ClientBegins later
      b = client_begins jmax main units h setup later run (n, f) cs e

      calls : (1 + length setup, b.first) ∷ numbered_calls 1 (1 + length setup + 1) b.rest ≡ (n, f) ∷ cs
      calls = sym (call_first 1 (1 + length setup) b.first b.rest b.seat) ∙ (sym (ap (numbered_calls 1 (1 + length setup)) b.are) ∙ (sym (calls_later jmax main units h setup later run 1 (omega arith)) ∙ e))

      same : b.first ≡ f
      same = ap (λ (c : ℕ × Entry Meaning). c.1) (same_head (1 + length setup, b.first) (n, f) (numbered_calls 1 (1 + length setup + 1) b.rest) cs calls)

      parts : h ≡ setup ++ f ∷ b.rest
      parts = run.parts ∙ (ap (λ l. setup ++ l) b.are ∙ ap (λ (x : Entry Meaning). setup ++ x ∷ b.rest) same)

  -- the lookup ended with a collect that found the instance
  module _ (last : ℕ × Entry Meaning) (copied : List (ℕ × Entry Meaning)) (i : InstId) (at address : ℕ) (found : last.1.reply ≡ reply.Found at (Some (i, address) ∷ [])) where
    by_collect : (f : Entry Meaning) (q : QueryId) (j : InstId) (bs : List (ℕ × Entry Meaning)) → AskFirst f (bs ++ last ∷ copied) → f.event ≡ lookup_event (lookup_of entry) → q.0 ≡ length (state setup).queries →
        matched (state setup) (lookup_of entry).order (lookup_of entry).wanted ≡ Some j ∷ [] → (f.reply ≡ reply.Done q) ⊎ (f.reply ≡ reply.Pending q) → last.1.event ≡ event.Collect q → EntryFound h setup entry last.0 i address
    by_collect f q j bs a is number one lodged collects = record {
      row = row.0;
      there = row.1;
      is = row.2 ∙ same;
      at = at;
      low = omega (arith, entries_are setup, asked.asked, from);
      high = omega (arith, here, stands.number, length-append setup (f ∷ stands.past));
      ready = subst (λ (k : InstId). IsReady (state (take at h)).rows k.0) same (subst (λ g. IsReady (state g).rows j.0) front of.ready);
      has = ap (λ (k : InstId). address_at (state (take at h)).rows k.0) (sym same) ∙ (ap (λ g. address_at (state g).rows j.0) (sym front) ∙ (ready_address (state (take at past)).rows j.0 of.ready ∙ ap (λ (p : InstId × ℕ). Some p.1) match));
    }
      where
        asked : Asked (state setup) f entry
        asked = asks (state setup) f entry q is lodged

        stands : StandsAt 1 (1 + length setup + 1) a.rest last copied
        stands = stands_at 1 (1 + length setup + 1) a.rest bs copied last a.calls

        past : List (Entry Meaning)
        past = setup ++ f ∷ stands.past

        parts : h ≡ past ++ last.1 ∷ stands.rest
        parts = a.parts ∙ (ap (λ l. setup ++ f ∷ l) stands.parts ∙ sym (append_assoc setup (f ∷ stands.past) (last.1 ∷ stands.rest)))

        there : slice_get (state past).queries q.0 ≡ Some asked.query
        there = still_asked setup stands.past f q.0 asked.query (ap (slice_get (after (state setup) f).queries) number ∙ asked.there)

        end : IsEnd past q.0 at (Found (Some (i, address) ∷ []))
        end = subst (AnswersCollect past (state past) q.0) found (subst (λ v. Answers jmax past (state past) last.1.seat.0 v last.1.reply) collects (legal_at jmax past last.1 stands.rest (subst (IsLegal jmax) parts run.legal)).answers)

        same_query : end.query ≡ asked.query
        same_query = same_element (slice_get (state past).queries q.0) end.query asked.query end.there there

        from : asked.query.asked ≤ at
        from = subst (λ (r : Query). r.asked ≤ at) same_query end.settles.from

        here : at ≤ length past
        here = end.settles.here

        of : OneFound past at j (Some (i, address) ∷ [])
        of = one_found past at q.0 asked.query j (Some (i, address) ∷ []) there asked.level (asked.found ∙ one) end

        its : InstId × ℕ
        its = (j, unwrap_or (address_at (state (take at past)).rows j.0) 0)

        this : InstId × ℕ
        this = (i, address)

        match : its ≡ this
        match = same_Some its this (sym (same_head (Some this) (Some its) [] [] of.are))

        same : j ≡ i
        same = ap (λ (p : InstId × ℕ). p.0) match

        front : take at past ≡ take at h
        front = sym (ap (take at) parts ∙ take-append-le at past (last.1 ∷ stands.rest) here)

        row : (row : Row) × (row_of (state setup).rows 0 entry.0 ≡ Some row) × (row.inst ≡ j)
        row = row_matched (state setup) entry j (set_up_of jmax main units h setup later run).generators one

    -- by the answer of the ask
    by_answer : (n : ℕ) (f : Entry Meaning) (cs : List (ℕ × Entry Meaning)) → AskFirst f (cs ++ copied) → f.event ≡ lookup_event (lookup_of entry) → AnswersLookup (state setup) entry f.reply → EndsAsk h n f.reply cs →
        (before : List (ℕ × Entry Meaning)) → (n, f) ∷ cs ≡ before ++ last ∷ [] → EntryFound h setup entry last.0 i address
    by_answer n f cs a is (Nowhere none) ends before are = nowhere
        (sym found ∙ (ap (λ (c : ℕ × Entry Meaning). c.1.reply) (sym (same_last [] before (n, f) last (ap (λ l. (n, f) ∷ l) (sym (subst (λ r. EndsAsk h n r cs) none ends)) ∙ are))) ∙ none))
      where
        nowhere : {P : Type 0} → reply.Found at (Some (i, address) ∷ []) ≡ reply.Missing entry → P
        nowhere e = absurd (cc)
    by_answer n f cs a is (Somewhere j one lodged) ends before are = by_front before are (works_end h q n cs (works lodged))
      where
        q : QueryId
        q = record { 0 = length (state setup).queries }

        works : (f.reply ≡ reply.Done q) ⊎ (f.reply ≡ reply.Pending q) → Works h q n cs
        works (inl r) = subst (λ x. EndsAsk h n x cs) r ends
        works (inr r) = subst (λ x. EndsAsk h n x cs) r ends

        by_front : (front : List (ℕ × Entry Meaning)) → (n, f) ∷ cs ≡ front ++ last ∷ [] → EndsCollected q cs → EntryFound h setup entry last.0 i address
        by_front [] e w = never_empty w.front w.call [] (sym w.are ∙ same_tail (n, f) last cs [] e)
        by_front (b ∷ bs) e w =
            let rest : cs ≡ bs ++ last ∷ [] = same_tail (n, f) b cs (bs ++ last ∷ []) e in
            let call : w.call ≡ last = same_last w.front bs w.call last (sym w.are ∙ rest) in
            by_collect f q j bs (subst (AskFirst f) (ap (λ l. l ++ copied) rest ∙ append_assoc bs (last ∷ []) copied) a) is refl one lodged (ap (λ (c : ℕ × Entry Meaning). c.1.event) (sym call) ∙ w.collects)

    -- the answer is no offer
    never_offered : {P : Type 0} (f : Entry Meaning) (g : GenId) → AnswersLookup (state setup) entry f.reply → f.reply ≡ reply.Offer g → P
    never_offered f g (Nowhere r) o = let e : reply.Missing entry ≡ reply.Offer g = sym r ∙ o in absurd (cc)
    never_offered f g (Somewhere j one (inl r)) o = let e : reply.Done (record { 0 = length (state setup).queries }) ≡ reply.Offer g = sym r ∙ o in absurd (cc)
    never_offered f g (Somewhere j one (inr r)) o = let e : reply.Pending (record { 0 = length (state setup).queries }) ≡ reply.Offer g = sym r ∙ o in absurd (cc)

    by_looks : (cs before : List (ℕ × Entry Meaning)) → numbered_calls 1 1 h ≡ cs ++ copied → Looks h (lookup_of entry) cs → cs ≡ before ++ last ∷ [] → EntryFound h setup entry last.0 i address
    by_looks cs before calls (Asks n f ds is ends) are = let a = ask_first n f (ds ++ copied) calls is in by_answer n f ds a is a.answers ends before are
    by_looks cs before calls (Again n m e f g ds is offered uses looks) are = never_offered e g (ask_first n e ((m, f) ∷ ds ++ copied) calls is).answers offered

    pub entry_found : (before : List (ℕ × Entry Meaning)) → numbered_calls 1 1 h ≡ (before ++ last ∷ []) ++ copied → Looks h (lookup_of entry) (before ++ last ∷ []) → EntryFound h setup entry last.0 i address
    entry_found before calls looks = by_looks (before ++ last ∷ []) before calls looks refl
