-- How the lookup of a run ends.
use Rattle.std.proofs.Common.{◌≡◌, ℕ, ◌+◌, ◌<◌, true, false, List, [], ◌∷◌, ◌++◌, length, slice_get, take, ◌⊎◌, inl, inr, refl, sym, ap, ◌∙◌, subst, arith, append_assoc, Some, None, unwrap_or}
use Rattle.std.proofs.lemmas.Bool.{both_ways, cases_eq}
use Rattle.std.proofs.lemmas.List.Elements.{All-head}
use Rattle.orc_ids.specs.declared.ids.GenId.{GenId}
use Rattle.orc_ids.specs.declared.ids.InstId.{InstId}
use Rattle.orc_ids.specs.declared.ids.NameId.{NameId}
use Rattle.orc_ids.specs.declared.ids.QueryId.{QueryId}
use Rattle.orc_ids.specs.declared.lookup.Level.TheVariants.{Ready}
use Rattle.session_model.specs.Answer.{Answers, AnswersCollect, AnswersTake}
use Rattle.session_model.specs.Calls.{EndsAsk, Looks, Works, is_collected, lookup_event, numbered_calls}
use Rattle.session_model.specs.Calls.{Asks, Again, Collects, Job as AJob}
use Rattle.session_model.specs.Change.{change_of, changed, matched}
use Rattle.session_model.specs.History.{IsLegal}
use Rattle.session_model.specs.Meaning.{Meaning, Bindings}
use Rattle.session_model.specs.Plain.{Plain, address_at, empty}
use Rattle.session_model.specs.Query.{addresses}
use Rattle.session_model.specs.State.{IsEnd, after, state}
use Rattle.session_model.specs.declared.change.Change.{Change}
use Rattle.session_model.specs.declared.change.Change.TheVariants.{Ask}
use Rattle.session_model.specs.declared.entry.Entry.{Entry}
use Rattle.session_model.specs.declared.entry.Event.TheVariants as event
use Rattle.session_model.specs.declared.entry.Reply.{Reply}
use Rattle.session_model.specs.declared.entry.Reply.TheVariants as reply
use Rattle.session_model.specs.declared.rows.Ending.TheVariants.{Found}
use Rattle.session_model.specs.declared.rows.Query.{Query}
use Rattle.session_laws.proofs.Declared.{state_from_push, prefixes_legal, pushed_last, same_element, all_claimed_queries, query_stays, state_from_joined, settled_queries, call_first}
use Rattle.closure_laws.proofs.Declared.{found_parts, OneMore}
use Rattle.run_laws.specs.Laws.{EndsLookup, LookupEndsSo}
use Rattle.run_laws.specs.Runs.{IsRunBy, lookup_of}
use Rattle.run_laws.proofs.Asking.{AnswersLookup, Nowhere, Somewhere, lookup_answers}
use Rattle.run_laws.proofs.Ready.{IsReady, set_up_ready}
use Rattle.run_laws.proofs.Seats.{StandsIn, call_stands, calls_past, jobs_begin, legal_at, never_empty, not_empty, same_head, same_last, same_tail}

-- The first call after a set-up

-- the set-up is legal, and leads to such a session
pub set_up_of : (jmax : ℕ) (main : NameId) (units : List Meaning) (h setup later : List (Entry Meaning)) → IsRunBy jmax main units h setup later → IsReady (length units) (state setup)
set_up_of jmax main units h setup later run = set_up_ready jmax main units setup ((prefixes_legal jmax setup later).0 (subst (IsLegal jmax) run.parts run.legal)) run.set_up

-- the calls of another seat than the first are those after the set-up
pub calls_later : (jmax : ℕ) (main : NameId) (units : List Meaning) (h setup later : List (Entry Meaning)) → IsRunBy jmax main units h setup later → (s : ℕ) → 0 < s → numbered_calls s 1 h ≡ numbered_calls s (1 + length setup) later
calls_later jmax main units h setup later run s b = ap (numbered_calls s 1) run.parts ∙ calls_past s 1 setup later run.setup_seat b

-- the client makes it
pub record ClientBegins (later : List (Entry Meaning)) : Type 0 where
  pub first : Entry Meaning
  pub rest : List (Entry Meaning)
  pub are : later ≡ first ∷ rest
  pub seat : first.seat.0 ≡ 1

-- without a job there is nothing to take
take_stuck : {P : Type 0} (past : List (Entry Meaning)) (m : Plain) (r : Reply) → m.jobs ≡ [] → AnswersTake past m m.jobs r → P
take_stuck past m r none a = absurd (subst (λ js. AnswersTake past m js r) none a)

pub client_begins : (jmax : ℕ) (main : NameId) (units : List Meaning) (h setup later : List (Entry Meaning)) → IsRunBy jmax main units h setup later → (c : ℕ × Entry Meaning) (cs : List (ℕ × Entry Meaning)) → numbered_calls 1 1 h ≡ c ∷ cs → ClientBegins later
client_begins jmax main units h setup [] run c cs e = not_empty c cs (sym e ∙ calls_later jmax main units h setup [] run 1 (omega arith))
client_begins jmax main units h setup (x ∷ xs) run c cs e = by_seat (cases_eq x.seat.0 1)
  where
    seated : 0 < x.seat.0
    seated = All-head (λ (f : Entry Meaning). 0 < f.seat.0) x xs run.later_seats

    one : OneMore jmax setup x
    one = legal_at jmax setup x xs (subst (IsLegal jmax) run.parts run.legal)

    takes : (x.seat.0 ≡ 1 → ⊥) → x.event ≡ event.Take
    takes apart = jobs_begin h (numbered_calls x.seat.0 1 h) (run.workers_do x.seat.0 (omega (arith, seated, apart))) (1 + length setup, x) (numbered_calls x.seat.0 (1 + length setup + 1) xs)
        (calls_later jmax main units h setup (x ∷ xs) run x.seat.0 seated ∙ call_first x.seat.0 (1 + length setup) x xs refl)

    by_seat : (x.seat.0 ≡ 1) ⊎ (x.seat.0 ≡ 1 → ⊥) → ClientBegins (x ∷ xs)
    by_seat (inl is) = record { first = x; rest = xs; are = refl; seat = is }
    by_seat (inr apart) = take_stuck setup (state setup) x.reply (set_up_of jmax main units h setup (x ∷ xs) run).jobs (subst (λ v. Answers jmax setup (state setup) x.seat.0 v x.reply) (takes apart) one.answers)

-- The query of the lookup

-- it is there after the ask, with what the ask matched
pub record Asked (m : Plain) (e : Entry Meaning) (entry : NameId) : Type 0 where
  pub query : Query
  pub there : slice_get (after m e).queries (length m.queries) ≡ Some query
  pub asked : query.asked ≡ m.entries + 1
  pub level : query.level ≡ Ready
  pub found : query.matched ≡ matched m (lookup_of entry).order (lookup_of entry).wanted

pub asks : (m : Plain) (e : Entry Meaning) (entry : NameId) (q : QueryId) → e.event ≡ lookup_event (lookup_of entry) → (e.reply ≡ reply.Done q) ⊎ (e.reply ≡ reply.Pending q) → Asked m e entry
asks m e entry q is lodged = record { query = query; there = there; asked = refl; level = refl; found = refl }
  where
    query : Query
    query = record { asked = m.entries + 1; matched = matched m (lookup_of entry).order (lookup_of entry).wanted; level = Ready; unit = None; note = None }

    by_reply : (e.reply ≡ reply.Done q) ⊎ (e.reply ≡ reply.Pending q) → change_of m e.seat.0 (lookup_event (lookup_of entry)) e.reply ≡ Ask query.matched Ready None
    by_reply (inl r) = ap (change_of m e.seat.0 (lookup_event (lookup_of entry))) r
    by_reply (inr r) = ap (change_of m e.seat.0 (lookup_event (lookup_of entry))) r

    change : change_of m e.seat.0 e.event e.reply ≡ Ask query.matched Ready None
    change = ap (λ v. change_of m e.seat.0 v e.reply) is ∙ by_reply lodged

    queries : (after m e).queries ≡ m.queries ++ query ∷ []
    queries = settled_queries (changed (change_of m e.seat.0 e.event e.reply) m) ∙ (ap (λ (c : Change Meaning). (changed c m).queries) change ∙ ap (λ qs. qs ++ query ∷ []) (all_claimed_queries query.matched m))

    there : slice_get (after m e).queries (length m.queries) ≡ Some query
    there = ap (λ qs. slice_get qs (length m.queries)) queries ∙ pushed_last m.queries query

-- and later
pub still_asked : (past more : List (Entry Meaning)) (e : Entry Meaning) (k : ℕ) (q : Query) → slice_get (after (state past) e).queries k ≡ Some q → slice_get (state (past ++ e ∷ more)).queries k ≡ Some q
still_asked past more e k q t = ap (λ (m : Plain). slice_get m.queries k) (ap state (sym (append_assoc past (e ∷ []) more)) ∙ state_from_joined empty (past ++ e ∷ []) more)
    ∙ query_stays (state (past ++ e ∷ [])) more k q (ap (λ (m : Plain). slice_get m.queries k) (state_from_push empty past e) ∙ t)

-- The end of the lookup

-- it is collected last
pub record EndsCollected (q : QueryId) (cs : List (ℕ × Entry Meaning)) : Type 0 where
  pub front : List (ℕ × Entry Meaning)
  pub call : ℕ × Entry Meaning
  pub are : cs ≡ front ++ call ∷ []
  pub collects : call.1.event ≡ event.Collect q
  pub collected : is_collected call.1.reply ≡ true

pub works_end : (h : List (Entry Meaning)) (q : QueryId) (n : ℕ) (cs : List (ℕ × Entry Meaning)) → Works h q n cs → EndsCollected q cs
works_end h q n cs (Collects k m e is got) = record { front = []; call = (m, e); are = refl; collects = is; collected = got }
works_end h q n cs (AJob k m query last before rest there unmet job works) =
    let p = works_end h q last.0 rest works in
    record { front = before ++ last ∷ p.front; call = p.call; are = ap (λ l. before ++ last ∷ l) p.are ∙ sym (append_assoc before (last ∷ p.front) (p.call ∷ [])); collects = p.collects; collected = p.collected }

-- a query of one instance is found with one address
found_one : (past : List (Entry Meaning)) (k : ℕ) (q : Query) (i : InstId) (at : ℕ) (matches : Bindings) → slice_get (state past).queries k ≡ Some q → q.matched ≡ Some i ∷ [] → IsEnd past k at (Found matches) → (j : InstId) × (address : ℕ) × (matches ≡ Some (j, address) ∷ [])
found_one past k q i at matches there one end =
    let rows = (state (take at past)).rows in
    let is = same_element (slice_get (state past).queries k) end.query q end.there there in
    (i, unwrap_or (address_at rows i.0) 0, (found_parts rows end.query matches end.settles.met end.ends).are ∙ (ap (λ (r : Query). addresses rows r.matched) is ∙ ap (addresses rows) one))

collect_ends : (past : List (Entry Meaning)) (entry : NameId) (k : ℕ) (q : Query) (i : InstId) (r : Reply) → slice_get (state past).queries k ≡ Some q → q.matched ≡ Some i ∷ [] → is_collected r ≡ true → AnswersCollect past (state past) k r → EndsLookup entry r
collect_ends past entry k q i (reply.Found at matches) there one got a = found_one past k q i at matches there one a
collect_ends past entry k q i (reply.Lost at j) there one got a = tt
collect_ends past entry k q i _ there one got a = absurd (both_ways false refl got)

-- The whole

module _ (jmax : ℕ) (main entry : NameId) (units : List Meaning) (h setup later : List (Entry Meaning)) (run : IsRunBy jmax main units h setup later) where
  -- what is known of the first call of the client, and those that follow
  record AskFirst (f : Entry Meaning) (cs : List (ℕ × Entry Meaning)) : Type 0 where
    rest : List (Entry Meaning)
    number : ℕ
    parts : h ≡ setup ++ f ∷ rest
    calls : numbered_calls 1 number rest ≡ cs
    answers : AnswersLookup (state setup) entry f.reply

  ask_first : (n : ℕ) (f : Entry Meaning) (cs : List (ℕ × Entry Meaning)) → numbered_calls 1 1 h ≡ (n, f) ∷ cs → f.event ≡ lookup_event (lookup_of entry) → AskFirst f cs
  ask_first n f cs e is = record {
    rest = b.rest;
    number = 1 + length setup + 1;
    parts = parts;
    calls = same_tail (1 + length setup, b.first) (n, f) (numbered_calls 1 (1 + length setup + 1) b.rest) cs calls;
    answers = lookup_answers (length units) (state setup) entry f.reply (set_up_of jmax main units h setup later run)
        (subst (λ v. Answers jmax setup (state setup) f.seat.0 v f.reply) is (legal_at jmax setup f b.rest (subst (IsLegal jmax) parts run.legal)).answers).2;
  }
    where
      b : ClientBegins later
      b = client_begins jmax main units h setup later run (n, f) cs e

      calls : (1 + length setup, b.first) ∷ numbered_calls 1 (1 + length setup + 1) b.rest ≡ (n, f) ∷ cs
      calls = sym (call_first 1 (1 + length setup) b.first b.rest b.seat) ∙ (sym (ap (numbered_calls 1 (1 + length setup)) b.are) ∙ (sym (calls_later jmax main units h setup later run 1 (omega arith)) ∙ e))

      same : b.first ≡ f
      same = ap (λ (c : ℕ × Entry Meaning). c.1) (same_head (1 + length setup, b.first) (n, f) (numbered_calls 1 (1 + length setup + 1) b.rest) cs calls)

      parts : h ≡ setup ++ f ∷ b.rest
      parts = run.parts ∙ (ap (λ l. setup ++ l) b.are ∙ ap (λ (x : Entry Meaning). setup ++ x ∷ b.rest) same)

  -- the collect ends it
  collect_ends_it : (f : Entry Meaning) (q : QueryId) (i : InstId) (k : ℕ) (cs copied : List (ℕ × Entry Meaning)) → AskFirst f (cs ++ copied) → f.event ≡ lookup_event (lookup_of entry) → q.0 ≡ length (state setup).queries →
      matched (state setup) (lookup_of entry).order (lookup_of entry).wanted ≡ Some i ∷ [] → (f.reply ≡ reply.Done q) ⊎ (f.reply ≡ reply.Pending q) → Works h q k cs → (front : List (ℕ × Entry Meaning)) (last : ℕ × Entry Meaning) → cs ≡ front ++ last ∷ [] → EndsLookup entry last.1.reply
  collect_ends_it f q i k cs copied a is number one lodged works front last are = subst (λ (c : ℕ × Entry Meaning). EndsLookup entry c.1.reply) same_call
      (collect_ends past entry q.0 asked.query i w.call.1.reply (still_asked setup stands.past f q.0 asked.query (ap (slice_get (after (state setup) f).queries) number ∙ asked.there)) (asked.found ∙ one) w.collected
      (subst (λ v. Answers jmax past (state past) w.call.1.seat.0 v w.call.1.reply) w.collects (legal_at jmax past w.call.1 stands.rest (subst (IsLegal jmax) parts run.legal)).answers))
    where
      w : EndsCollected q cs
      w = works_end h q k cs works

      same_call : w.call ≡ last
      same_call = same_last w.front front w.call last (sym w.are ∙ are)

      asked : Asked (state setup) f entry
      asked = asks (state setup) f entry q is lodged

      stands : StandsIn a.rest w.call.1
      stands = call_stands 1 a.number a.rest w.front copied w.call (a.calls ∙ (ap (λ l. l ++ copied) w.are ∙ append_assoc w.front (w.call ∷ []) copied))

      past : List (Entry Meaning)
      past = setup ++ f ∷ stands.past

      parts : h ≡ past ++ w.call.1 ∷ stands.rest
      parts = a.parts ∙ (ap (λ l. setup ++ f ∷ l) stands.parts ∙ sym (append_assoc setup (f ∷ stands.past) (w.call.1 ∷ stands.rest)))

  -- by the answer of the ask
  ends_by : (n : ℕ) (f : Entry Meaning) (cs copied : List (ℕ × Entry Meaning)) → AskFirst f (cs ++ copied) → f.event ≡ lookup_event (lookup_of entry) → AnswersLookup (state setup) entry f.reply → EndsAsk h n f.reply cs → (before : List (ℕ × Entry Meaning)) (last : ℕ × Entry Meaning) → (n, f) ∷ cs ≡ before ++ last ∷ [] → EndsLookup entry last.1.reply
  ends_by n f cs copied a is (Nowhere none) ends before last are = subst (λ (c : ℕ × Entry Meaning). EndsLookup entry c.1.reply) (same_last [] before (n, f) last (ap (λ l. (n, f) ∷ l) (sym (subst (λ r. EndsAsk h n r cs) none ends)) ∙ are))
      (subst (EndsLookup entry) (sym none) refl)
  ends_by n f cs copied a is (Somewhere i one lodged) ends before last are = by_front before are (works lodged)
    where
      q : QueryId
      q = record { 0 = length (state setup).queries }

      works : (f.reply ≡ reply.Done q) ⊎ (f.reply ≡ reply.Pending q) → Works h q n cs
      works (inl r) = subst (λ x. EndsAsk h n x cs) r ends
      works (inr r) = subst (λ x. EndsAsk h n x cs) r ends

      by_front : (front : List (ℕ × Entry Meaning)) → (n, f) ∷ cs ≡ front ++ last ∷ [] → Works h q n cs → EndsLookup entry last.1.reply
      by_front [] e w = let p = works_end h q n cs w in absurd (never_empty p.front p.call [] (sym p.are ∙ same_tail (n, f) last cs [] e))
      by_front (b ∷ bs) e w = collect_ends_it f q i n cs copied a is refl one lodged w bs last (same_tail (n, f) b cs (bs ++ last ∷ []) e)

  -- the answer is no offer
  never_offered : {P : Type 0} (f : Entry Meaning) (g : GenId) → AnswersLookup (state setup) entry f.reply → f.reply ≡ reply.Offer g → P
  never_offered f g (Nowhere r) o = let e : reply.Missing entry ≡ reply.Offer g = sym r ∙ o in absurd (cc)
  never_offered f g (Somewhere i one (inl r)) o = let e : reply.Done (record { 0 = length (state setup).queries }) ≡ reply.Offer g = sym r ∙ o in absurd (cc)
  never_offered f g (Somewhere i one (inr r)) o = let e : reply.Pending (record { 0 = length (state setup).queries }) ≡ reply.Offer g = sym r ∙ o in absurd (cc)

  looks_end : (cs copied before : List (ℕ × Entry Meaning)) (last : ℕ × Entry Meaning) → numbered_calls 1 1 h ≡ cs ++ copied → Looks h (lookup_of entry) cs → cs ≡ before ++ last ∷ [] → EndsLookup entry last.1.reply
  looks_end cs copied before last calls (Asks n f ds is ends) are = let a = ask_first n f (ds ++ copied) calls is in ends_by n f ds copied a is a.answers ends before last are
  looks_end cs copied before last calls (Again n m e f g ds is offered uses looks) are = never_offered e g (ask_first n e ((m, f) ∷ ds ++ copied) calls is).answers offered

pub lookup_ends_so : LookupEndsSo
lookup_ends_so jmax main entry units h setup later run before copied n last calls looks = looks_end jmax main entry units h setup later run (before ++ (n, last) ∷ []) copied before (n, last) calls looks refl
