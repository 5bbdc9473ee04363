-- The whole history of a script's session.
use Rattle.std.proofs.Common.{◌≡◌, ℕ, zero, suc, ◌+◌, ◌-◌, ◌<◌, ◌≤◌, ◌⊎◌, inl, inr, false, List, [], ◌∷◌, length, map, take, refl, sym, ap, subst, ◌∙◌, arith, All, Option, Some, None, slice_get}
use Rattle.std.proofs.lemmas.Bool.{cases_lt}
use Rattle.std.proofs.lemmas.List.{length-map}
use Rattle.std.proofs.lemmas.List.Elements.{All-cons, All-nil}
use Rattle.std.proofs.lemmas.Option.{none-some, same_Some, slice_get_within}
use Rattle.orc_ids.specs.declared.lookup.Outcome.{Outcome}
use Rattle.orc_ids.specs.declared.lookup.Stop.{Stop}
use Rattle.session_model.specs.Calls.{numbered_calls}
use Rattle.session_model.specs.Meaning.{Meaning}
use Rattle.session_model.specs.State.{plain_history, state}
use Rattle.session_model.specs.declared.entry.Entry.{Entry}
use Rattle.session_model.specs.declared.entry.Event.{Event}
use Rattle.session_laws.proofs.Declared.{mapped_parts}
use Rattle.notifiers.specs.Notices.{AreHeard}
use Rattle.notifiers.specs.declared.notice.Notice.{Notice}
use Rattle.turn_lock.specs.declared.view.View.{View}
use Rattle.turn_lock.specs.Told.{Shows}
use Rattle.shared_session.specs.Home.{IsLawful, IsPosted, seat_of}
use Rattle.shared_session.specs.Did.{Did, Promise, calls_in}
use Rattle.shared_session.proofs.Numbers.{starts_again}
use Rattle.link_worker.specs.Does.{Nobody, PlacesLowest, ToldAt}
use Rattle.link_worker.specs.Works.{Jobs}
use Rattle.materialization.specs.Rest.{HoldsNone}
use Rattle.crew.specs.Crew.{HaveWorked, IsKept}
use Rattle.crew.proofs.Taking.{says}
use Rattle.crew.proofs.Worked.{all_at, some_there}
use Rattle.run_laws.specs.Runs.{AreJobs, NoJob}
use Rattle.link_worker.specs.First.{IsFirst}
use Rattle.link_worker.proofs.Calls.{Made, member_made}
use Rattle.link_worker.proofs.Held.{AreStill, is_working, let_go}
use Rattle.link_worker.proofs.Whole.{IsWhole, alone, are_jobs, cause_in, none_of_rest, whole}
use Rattle.script_model.specs.Lines.{AreLines, AreSkipped}
use Rattle.script_model.specs.Asking.{Script}
use Rattle.script_model.specs.Scripts.{AreCalled, ClientsRan, InSetUp, IsScriptRun, NoClientRan, Went, Whole}
use Rattle.script_model.specs.declared.line_end.LineEnd.{LineEnd}
use Rattle.script_session.specs.Clients.{AreUnheard, MakesAll}
use Rattle.script_session.specs.Members.{AllSkipped, AreMembers, IsClientOf, IsSkipped, Serves, ends_in, ends_of, told_of, unlodged_in, unlodged_of}
use Rattle.script_model.specs.Plans.{line_of}
use Rattle.script_session.specs.SetUps.{HasSetUp, IsAt}
use Rattle.script_model.specs.declared.calls.ClientCall.{ClientCall}
use Rattle.script_session.specs.declared.members.Member.{Member}
use Rattle.script_session.specs.declared.members.Role.{Role}
use Rattle.script_session.specs.declared.members.Role.TheVariants.{Client, Worker}
use Rattle.script_session.proofs.MemberEnds.{Anything, AreRoles, WasAtWork, WasClient, client_was, count_ends, ends_at, member_was, only_one, roles, worker_was}
use Rattle.script_session.proofs.Notifying.{all_unlodged, told_at}

-- entries whose events take no job and place nothing
still_entries : (es : List (Entry Meaning)) (events : List (Event Meaning)) → AreCalled events es → All (λ e. is_working e ≡ false) events → AreStill es
still_entries es events called still k e there = all_at (λ x. is_working x ≡ false) events k e.event still (subst (λ l. slice_get l k ≡ Some e.event) called (at es k there))
  where
    at : (xs : List (Entry Meaning)) (k : ℕ) → slice_get xs k ≡ Some e → slice_get (map (λ (x : Entry Meaning). x.event) xs) k ≡ Some e.event
    at [] k there = absurd (none-some e there)
    at (x ∷ xs) zero there = ap (λ (y : Entry Meaning). Some y.event) (same_Some x e there)
    at (x ∷ xs) (suc k) there = at xs k there

still_taken : (n : ℕ) (events : List (Event Meaning)) → All (λ e. is_working e ≡ false) events → All (λ e. is_working e ≡ false) (take n events)
still_taken n events still = Rattle.crew.proofs.Worked.all_from (λ e. is_working e ≡ false) (take n events) (λ k e at. all_at (λ x. is_working x ≡ false) events k e still (taken_there n k events e at))
  where
    taken_there : (n k : ℕ) (xs : List (Event Meaning)) (x : Event Meaning) → slice_get (take n xs) k ≡ Some x → slice_get xs k ≡ Some x
    taken_there zero k xs x there = absurd (none-some x there)
    taken_there (suc n) k [] x there = absurd (none-some x there)
    taken_there (suc n) zero (y ∷ ys) x there = there
    taken_there (suc n) (suc k) (y ∷ ys) x there = taken_there n k ys x there

-- what a seat's calls keep: a promise, who was told at them, and where they placed
abbrev With : {N : Type 0} → Promise → List (Notice N) → Promise
With P told h cs = P h cs × ToldAt h cs told × PlacesLowest h cs

module _ {U N : Type 0} (means : U → Meaning) (heard : N → Option Outcome) (numbers : N → ℕ) (jmax workers : ℕ) (events : List (Event Meaning)) (clients : List (List (ClientCall U N))) (still : All (λ e. is_working e ≡ false) events) where
  abbrev pub script : Script
  script = record { set_up = events; clients = map (map (line_of means)) clients }

  abbrev pub seats : ℕ
  seats = 1 + length clients + workers

  abbrev pub same_count : length script.clients ≡ length clients
  same_count = length-map clients (map (line_of means))

  -- a whole history, in which the workers did jobs, and which went so
  run_of : (log : List (Entry U)) (setup later : List (Entry Meaning)) (st : Option Stop) (ends : List (List LineEnd)) → IsWhole means jmax seats log setup later →
      ((s : ℕ) → length clients < s → AreJobs (plain_history means log) (numbered_calls s 1 (plain_history means log))) → Went jmax script ends (plain_history means log) setup later st → IsScriptRun jmax workers script st ends (plain_history means log)
  run_of log setup later st ends w jobs went = record {
    legal = w.legal;
    places = w.places;
    lowest = w.lowest;
    setup = setup;
    later = later;
    parts = w.parts;
    setup_seat = w.setup_seat;
    later_seats = λ k d lt. let b = w.later_seats k d lt in (b.0, omega (arith, b.1, same_count));
    workers_do = λ s more. jobs s (omega (arith, more, same_count));
    went = went;
    none_held = w.none_held;
  }

  -- The set-up was stopped.

  skipped_ends : {G : Type 0} (old new : List (Member U N G)) → AreMembers clients workers old → AllSkipped means heard numbers old new → AreRoles workers new
  skipped_ends old new are skipped = record {
    none = λ k n now few.
        let below = slice_get_within new k n now in
        let m = some_there old k (omega (arith, below, skipped.count)) in
        worker_none m.0.role n.role (are.is_worker k m.0 m.1 few) (skipped.each k m.0 n m.1 now).role;
    one = λ k n now past.
        let below = slice_get_within new k n now in
        let m = some_there old k (omega (arith, below, skipped.count)) in
        let c : ℕ = (workers + length clients) - (k + 1) in
        let place : k + c + 1 ≡ workers + length clients = omega (arith, below, skipped.count, are.count) in
        let a = are.is_client k c m.0 m.1 (omega (arith, place, past)) place in
        client_one a.0 m.0.role n.role a.2 (skipped.each k m.0 n m.1 now).role;
  }
    where
      worker_none : (r s : Role U N) → r ≡ Worker → IsSkipped means heard numbers r s → ends_in s ≡ []
      worker_none r s is did = by s (subst (λ x. IsSkipped means heard numbers x s) is did)
        where
          by : (s : Role U N) → IsSkipped means heard numbers Worker s → ends_in s ≡ []
          by (Client calls client) did = absurd did
          by Worker did = refl

      client_one : (calls : List (ClientCall U N)) (r s : Role U N) → IsClientOf calls r → IsSkipped means heard numbers r s → (es : List LineEnd) × (ends_in s ≡ es ∷ [])
      client_one calls (Client its client) (Client left done) c did = (done.lines.items, refl)
      client_one calls (Client its client) Worker c did = absurd did
      client_one calls Worker s none did = absurd none

  none_ran : {G : Type 0} (old new : List (Member U N G)) → AreMembers clients workers old → AllSkipped means heard numbers old new → NoClientRan script.clients (ends_of new)
  none_ran old new are skipped =
      let r = skipped_ends old new are skipped in
      let le : workers ≤ length new = omega (arith, are.count, skipped.count) in record {
        count = omega (arith, count_ends workers new le r, skipped.count, are.count, same_count);
        each = λ k lines its at ends.
            let e = ends_at workers new k its le r ends in
            let m = some_there old e.place (omega (arith, e.counts, skipped.count)) in
            let calls = mapped_parts (map (line_of means)) clients k lines at in
            let below = slice_get_within clients k calls.0 calls.1 in
            let a = are.is_client e.place k m.0 m.1 below (omega (arith, e.counts, skipped.count, are.count)) in
            let same = same_Some a.0 calls.0 (sym a.1 ∙ calls.1) in
            subst (λ l. AreSkipped l its) (ap (map (line_of means)) same ∙ sym calls.2) (lines_skipped a.0 m.0.role e.member.role its a.2 e.ends (skipped.each e.place m.0 e.member m.1 e.there).role);
      }
    where
      lines_skipped : (calls : List (ClientCall U N)) (r s : Role U N) (es : List LineEnd) → IsClientOf calls r → ends_in s ≡ es ∷ [] → IsSkipped means heard numbers r s → AreSkipped (map (line_of means) calls) es
      lines_skipped calls (Client its client) (Client left done) es (is, room) ends did = subst (λ l. AreSkipped (map (line_of means) l) es) is (subst (AreSkipped (map (line_of means) its.items)) (only_one done.lines.items es ends) did.0)
      lines_skipped calls (Client its client) Worker es c ends did = absurd did
      lines_skipped calls Worker s es none ends did = absurd none

  pub stopped_run : {G : Type 0} (v : View (Entry U)) (log : List (Entry U)) (st : Stop) (old new : List (Member U N G)) → HasSetUp means jmax events v (Some st) → AreMembers clients workers old → AllSkipped means heard numbers old new → Shows seat_of (IsLawful means jmax) (IsPosted means) log v →
      IsScriptRun jmax workers script (Some st) (ends_of new) (plain_history means log)
  stopped_run v log st old new (n, few, ((first, called), cause)) are skipped s =
      run_of log (plain_history means v.seen) [] (Some st) (ends_of new) (alone means jmax seats v log (omega arith) first s (still_entries (plain_history means v.seen) (take n events) called (still_taken n events still)))
      (λ k more. subst (AreJobs (plain_history means log)) (sym (none_of_rest means jmax v log k (omega (arith, more)) first s)) NoJob)
      (InSetUp n st few called refl (cause_in means jmax st log v.seen ([], Rattle.link_worker.proofs.FirstSeat.saw_all means jmax v log first s ∙ sym (Rattle.std.proofs.Common.append-nil v.seen)) cause) (none_ran old new are skipped))

  -- The set-up was done, and all worked.
  module _ {G : Type 0} (v z : View (Entry U)) (log : List (Entry U)) (old new : List (Member U N G)) (at : IsAt means jmax events v) (count : v.seats ≡ seats) (are : AreMembers clients workers old) (worked : HaveWorked seat_of (Serves means heard numbers jmax) v z old new) (s : Shows seat_of (IsLawful means jmax) (IsPosted means) log z) where
    abbrev said : Rattle.crew.specs.Crew.Says seat_of log v × All (IsKept seat_of log) worked.views
    said = worked.kept log (says seat_of (IsLawful means jmax) (IsPosted means) log z s)

    abbrev rest : List (Entry U)
    rest = said.0.later.0

    r : AreRoles workers new
    r = roles means heard numbers jmax clients workers v z old new at.0.from are worked

    le : workers ≤ length new
    le = omega (arith, are.count, worked.count)

    -- what a seat made
    made_by : (P : Promise) (number : ℕ) (told : List (Notice N)) → 0 < number → WasAtWork means heard numbers jmax P v.seen log number told → Made means log number (With P told)
    made_by P number told some w = member_made means log number w.before w.after (With P told) some w.begins.number_is w.same (subst (All (λ (e : Entry U). e.seat.0 ≡ 0)) (sym w.begins.seen_is) at.0.own) w.kept
        (subst (λ t. Did means w.before w.after (With P t)) (sym w.does.added) w.does.did)

    client_made : (c : ℕ) (calls : List (ClientCall U N)) (es : List LineEnd) (told : List (Notice N)) → WasClient means heard numbers jmax v.seen log (1 + c) calls es told → Made means log (1 + c) (With (MakesAll (map (line_of means) calls) es) told)
    client_made c calls es told w = made_by (MakesAll (map (line_of means) calls) es) (1 + c) told (omega arith) w.work

    -- a client, by its number
    client_at : (c : ℕ) → c < length clients → (calls : List (ClientCall U N)) × (es : List LineEnd) × (told : List (Notice N)) × WasClient means heard numbers jmax v.seen log (1 + c) calls es told
    client_at c few =
        let k : ℕ = (workers + length clients) - (c + 1) in
        let place : k + c + 1 ≡ workers + length clients = omega (arith, few) in
        let m = some_there old k (omega (arith, place, are.count)) in
        let n = some_there new k (omega (arith, place, are.count, worked.count)) in
        let one = r.one k n.0 n.1 (omega (arith, place, few)) in
        let w = client_was means heard numbers jmax clients workers v z old new at.0.from are worked log said.1 k c m.0 n.0 one.0 m.1 n.1 place few one.1 in
        (w.0, one.0, n.0.fired, w.2)

    worker_at : (n : ℕ) → length clients < n → n < seats → (told : List (Notice N)) × WasAtWork means heard numbers jmax Jobs v.seen log n told
    worker_at n more few = worker_was means heard numbers jmax clients workers v z old new at.0.from are worked log said.1 ((workers + length clients) - n) n (omega (arith, more, few)) (omega (arith, few))

    lows : (n : ℕ) → 0 < n → n < seats → PlacesLowest (plain_history means log) (calls_in means n log)
    lows n some few = by n some few (cases_lt (length clients) n)
      where
        by : (n : ℕ) → 0 < n → n < seats → (length clients < n) ⊎ (n ≤ length clients) → PlacesLowest (plain_history means log) (calls_in means n log)
        by n some few (inl more) =
            let w = worker_at n more few in
            let m = made_by Jobs n w.0 some w.1 in
            subst (PlacesLowest (plain_history means log)) (sym m.calls) m.holds.2
        by zero some few (inr not_more) = absurd (omega (arith, some))
        by (suc c) some few (inr not_more) =
            let w = client_at c (omega (arith, not_more)) in
            let m = client_made c w.0 w.1 w.2 w.3 in
            subst (λ k. PlacesLowest (plain_history means log) (calls_in means k log)) (omega arith) (subst (PlacesLowest (plain_history means log)) (sym m.calls) m.holds.2)

    -- no seat that worked holds a unit
    gone : (P : Promise) (n : ℕ) (told : List (Notice N)) → WasAtWork means heard numbers jmax P v.seen log n told → HoldsNone (state (plain_history means log)) n
    gone P n told w = let_go means jmax log n w.after s.legal.legal w.same w.kept w.free

    free : (n : ℕ) → 0 < n → n < seats → HoldsNone (state (plain_history means log)) n
    free n some few = by n some few (cases_lt (length clients) n)
      where
        by : (n : ℕ) → 0 < n → n < seats → (length clients < n) ⊎ (n ≤ length clients) → HoldsNone (state (plain_history means log)) n
        by n some few (inl more) = let w = worker_at n more few in gone Jobs n w.0 w.1
        by zero some few (inr not_more) = absurd (omega (arith, some))
        by (suc c) some few (inr not_more) =
            let w = client_at c (omega (arith, not_more)) in
            subst (λ k. HoldsNone (state (plain_history means log)) k) (omega arith) (gone (MakesAll (map (line_of means) w.0) w.1) (1 + c) w.2 w.3.work)

    all_of_it : IsWhole means jmax seats log (plain_history means v.seen) (plain_history means rest)
    all_of_it = whole means jmax seats v z log rest (omega arith) at.0 said.0 said.0.later.1 count s (still_entries (plain_history means v.seen) events at.1 still) lows free

    workers_jobs : (n : ℕ) → length clients < n → AreJobs (plain_history means log) (numbered_calls n 1 (plain_history means log))
    workers_jobs n more = by (cases_lt n seats)
      where
        by : (n < seats) ⊎ (seats ≤ n) → AreJobs (plain_history means log) (numbered_calls n 1 (plain_history means log))
        by (inl few) =
            let w = worker_at n more few in
            let m = made_by Jobs n w.0 (omega (arith, more)) w.1 in
            subst (AreJobs (plain_history means log)) (sym m.calls) (are_jobs (plain_history means log) m.made m.holds.0)
        by (inr far) = subst (AreJobs (plain_history means log)) (sym (all_of_it.beyond n far)) NoJob

    -- whose ends they are, and its lines
    of_ends : (c : ℕ) (es : List LineEnd) → slice_get (ends_of new) c ≡ Some es → (calls : List (ClientCall U N)) × (slice_get clients c ≡ Some calls) × (told : List (Notice N)) × WasClient means heard numbers jmax v.seen log (1 + c) calls es told
    of_ends c es ends =
        let e = ends_at workers new c es le r ends in
        let m = some_there old e.place (omega (arith, e.counts, worked.count)) in
        let counted = count_ends workers new le r in
        let below = slice_get_within (ends_of new) c es ends in
        let was = client_was means heard numbers jmax clients workers v z old new at.0.from are worked log said.1 e.place c m.0 e.member es m.1 e.there (omega (arith, e.counts, worked.count, are.count)) (omega (arith, below, counted, worked.count, are.count)) e.ends in
        (was.0, was.1, e.member.fired, was.2)

    ran : ClientsRan jmax script.clients (ends_of new) (plain_history means log)
    ran = record {
      count = omega (arith, count_ends workers new le r, worked.count, are.count, same_count);
      each = λ k lines its there ends.
          let w = of_ends k its ends in
          let m = client_made k w.0 its w.2 w.3 in
          let calls = mapped_parts (map (line_of means)) clients k lines there in
          let same = same_Some w.0 calls.0 (sym w.1 ∙ calls.1) in
          subst (λ l. AreLines (plain_history means log) [] l its (numbered_calls (1 + k) 1 (plain_history means log))) (ap (map (line_of means)) same ∙ sym calls.2)
          (subst (AreLines (plain_history means log) [] (map (line_of means) w.0) its) (sym m.calls) m.holds.0);
      causes = λ k i its st ends stop.
          let w = of_ends k its ends in
          let was = w.3.causes i st stop in
          cause_in means jmax st log was.0 (starts_again log w.3.work.after.seen was.0 w.3.work.kept.later was.1) was.3;
    }

    pub whole_run : IsScriptRun jmax workers script None (ends_of new) (plain_history means log)
    whole_run = run_of log (plain_history means v.seen) (plain_history means rest) None (ends_of new) all_of_it workers_jobs (Whole at.1 ran)

    -- whoever is at a place
    at_place : (k number : ℕ) (n : Member U N G) → slice_get new k ≡ Some n → number + k ≡ workers + length clients → WasAtWork means heard numbers jmax Anything v.seen log number n.fired × All (AreUnheard heard numbers) (unlodged_in n.role)
    at_place k number n now place = member_was means heard numbers jmax clients workers v z old new at.0.from are worked log said.1 k number n now place

    -- who was told at each seat's calls
    pub told_whole : (k : ℕ) (fired : List (Notice N)) → slice_get (told_of new) k ≡ Some fired → ToldAt (plain_history means log) (numbered_calls (1 + k) 1 (plain_history means log)) fired × AreHeard heard fired
    told_whole k fired at_k =
        let t = told_at new k fired at_k in
        let w = (at_place t.place (1 + k) t.member t.there (omega (arith, t.counts, worked.count, are.count))).0 in
        let m = made_by Anything (1 + k) t.member.fired (omega arith) w in
        subst (λ l. ToldAt (plain_history means log) (numbered_calls (1 + k) 1 (plain_history means log)) l × AreHeard heard l) (sym t.is)
        (subst (λ cs. ToldAt (plain_history means log) cs t.member.fired) (sym m.calls) m.holds.1, subst (AreHeard heard) (sym w.does.added) w.does.heard_it)

    -- and the notifiers that no query has
    pub unlodged_whole : All (AreUnheard heard numbers) (unlodged_of new)
    unlodged_whole = all_unlodged (AreUnheard heard numbers) new (λ k n now. (at_place k ((workers + length clients) - k) n now (omega (arith, slice_get_within new k n now, worked.count, are.count))).1)

  -- where nobody worked
  pub told_skipped : {G : Type 0} (v : View (Entry U)) (log : List (Entry U)) (old new : List (Member U N G)) → IsFirst means jmax v → Shows seat_of (IsLawful means jmax) (IsPosted means) log v → AllSkipped means heard numbers old new →
      (k : ℕ) (fired : List (Notice N)) → slice_get (told_of new) k ≡ Some fired → ToldAt (plain_history means log) (numbered_calls (1 + k) 1 (plain_history means log)) fired × AreHeard heard fired
  told_skipped v log old new first s skipped k fired at_k =
      let t = told_at new k fired at_k in
      let m = some_there old t.place (omega (arith, slice_get_within new t.place t.member t.there, skipped.count)) in
      let none : fired ≡ [] = t.is ∙ (skipped.each t.place m.0 t.member m.1 t.there).untold in
      subst (λ l. ToldAt (plain_history means log) (numbered_calls (1 + k) 1 (plain_history means log)) l × AreHeard heard l) (sym none)
      (subst (λ cs. ToldAt {N = N} (plain_history means log) cs []) (sym (none_of_rest means jmax v log (1 + k) (omega arith) first s)) Nobody, All-nil (λ n. heard n.what ≡ Some n.outcome))

  pub unlodged_skipped : {G : Type 0} (old new : List (Member U N G)) → AllSkipped means heard numbers old new → All (AreUnheard heard numbers) (unlodged_of new)
  unlodged_skipped {G} old new skipped = all_unlodged (AreUnheard heard numbers) new
      (λ k n now. let m = some_there old k (omega (arith, slice_get_within new k n now, skipped.count)) in by m.0.role n.role (skipped.each k m.0 n m.1 now).role)
    where
      by : (r s : Role U N) → IsSkipped means heard numbers r s → All (AreUnheard heard numbers) (unlodged_in s)
      by (Client calls before) (Client left client) did = All-cons (AreUnheard heard numbers) client.unlodged.items [] did.1 (All-nil (AreUnheard heard numbers))
      by (Client calls before) Worker did = absurd did
      by Worker (Client left client) did = absurd did
      by Worker Worker did = All-nil (AreUnheard heard numbers)
