-- What the seats of a run did, put together: the history is that of the run.
use Rattle.std.proofs.Common.{◌≡◌, ℕ, zero, suc, ◌+◌, ◌<◌, ◌≤◌, ◌⊎◌, inl, inr, true, false, cond, eqb, List, [], ◌∷◌, ◌++◌, map, take, append-nil, refl, sym, ap, subst, ◌∙◌, arith, All, Option, Some, None, slice_get}
use Rattle.std.specs.Prelude.{if◌then◌else◌, ◌==◌}
use Rattle.std.proofs.lemmas.Bool.{both_ways, cases_eq, cases_lt, ne_eqb}
use Rattle.std.proofs.lemmas.List.Elements.{All-nil, All-weaker}
use Rattle.orc_ids.specs.declared.ids.NameId.{NameId}
use Rattle.orc_ids.specs.declared.lookup.Stop.{Stop}
use Rattle.orc_ids.specs.declared.lookup.Stop.TheVariants as stop
use Rattle.code_memory.specs.declared.image.Segment.{Segment}
use Rattle.session_model.specs.Calls.{Looks, numbered_calls}
use Rattle.session_model.specs.Meaning.{Meaning}
use Rattle.session_model.specs.State.{plain_history, state}
use Rattle.session_model.specs.declared.entry.Entry.{Entry}
use Rattle.session_model.specs.declared.entry.Event.{Event}
use Rattle.session_model.specs.declared.entry.Event.TheVariants as event
use Rattle.session_model.specs.declared.entry.Reply.{Reply}
use Rattle.session_model.specs.declared.entry.Reply.TheVariants as reply
use Rattle.session_model.specs.declared.entry.Why.TheVariants as why
use Rattle.materialization.specs.Rest.{HoldsNone}
use Rattle.turn_lock.specs.declared.view.View.{View}
use Rattle.turn_lock.specs.Told.{Shows}
use Rattle.shared_session.specs.Home.{IsLawful, IsPosted, seat_of}
use Rattle.shared_session.specs.Did.{Did, Promise}
use Rattle.shared_session.proofs.Numbers.{starts_again}
use Rattle.link_worker.specs.Does.{PlacesLowest}
use Rattle.link_worker.specs.Jobs.{SpareAll, is_cut_fail}
use Rattle.session_model.specs.Ends.{LastIs}
use Rattle.session_model.specs.Stopped.{IsCutShort}
use Rattle.session_model.specs.declared.look_end.LookEnd.{LookEnd}
use Rattle.session_model.specs.declared.look_end.LookEnd.TheVariants as look
use Rattle.memory_laws.specs.Objects.{setup_events}
use Rattle.run_laws.specs.Ended.{Ended, InDefinition, InSetUp, InLookup, NotThere, NotReady, IsReady, IsRefusedAt, IsRun, NoneIsCut, is_cut, is_whole}
use Rattle.run_laws.specs.Laws.{EndsLookup}
use Rattle.run_laws.specs.Runs.{AreJobs, IsRunBy, IsSetUp, LooksAndCopies, NoJob, lookup_of}
use Rattle.run_laws.specs.declared.linked.Linked.{Linked}
use Rattle.run_laws.specs.declared.linked.Linked.TheVariants as linked
use Rattle.run_laws.proofs.Ends.{lookup_ends_so}
use Rattle.link_worker.specs.Assists.{Works}
use Rattle.linked_program.specs.Clients.{Begins, Copies, Ends, IsClient}
use Rattle.linked_program.specs.Ends.{ConcludesEnd, IsPossibleEnd}
use Rattle.crew.specs.Crew.{Says}
use Rattle.link_worker.specs.First.{IsFirst}
use Rattle.linked_program.specs.SetUps.{HasSetUp}
use Rattle.linked_program.specs.Worked.{IsMember, IsRunOf, MembersWorked}
use Rattle.linked_program.specs.Members.{HasServed}
use Rattle.linked_program.specs.declared.concluding.Outcome.TheVariants as outcome
use Rattle.linked_program.specs.declared.client.ClientEnd.{ClientEnd}
use Rattle.linked_program.specs.declared.setting_up.SetUp.TheVariants as set_up
use Rattle.link_worker.proofs.Calls.{Made, member_made}
use Rattle.link_worker.proofs.FirstSeat.{saw_all}
use Rattle.link_worker.proofs.Held.{AreStill, is_working, let_go}
use Rattle.link_worker.proofs.Whole.{IsWhole, alone, are_jobs, cause_in, none_of_rest, whole}
use Rattle.std.proofs.lemmas.Option.{none-some, same_Some}

-- what cuts no job of a seat cuts none of the run
uncut : (v : Event Meaning) → is_cut_fail v ≡ false → is_cut v ≡ false
uncut (event.Fail u why.NoMemory) e = e
uncut (event.Fail u why.Full) e = e
uncut (event.Fail u _) e = refl
uncut _ e = refl

none_is_cut : (cs : List (ℕ × Entry Meaning)) → SpareAll cs → NoneIsCut cs
none_is_cut cs a = All-weaker (λ (c : ℕ × Entry Meaning). is_cut_fail c.1.event ≡ false) (λ (c : ℕ × Entry Meaning). is_cut c.1.event ≡ false) (λ c. uncut c.1.event) cs a

-- no event of a set-up takes a job or places a unit
not_working : (main : NameId) (units : List Meaning) (k : ℕ) (e : Event Meaning) → slice_get (setup_events main units) k ≡ Some e → is_working e ≡ false
not_working main units zero e there = subst (λ x. is_working x ≡ false) (same_Some (event.Dylib main) e there) refl
not_working main units (suc zero) e there = subst (λ x. is_working x ≡ false) (same_Some (event.Tracker (record { 0 = 0 })) e there) refl
not_working main units (suc (suc k)) e there = in_defines units k there
  where
    in_defines : (us : List Meaning) (k : ℕ) → slice_get (map (event.Define (record { 0 = 0 }) (record { 0 = 0 })) us) k ≡ Some e → is_working e ≡ false
    in_defines [] k there = absurd (none-some e there)
    in_defines (x ∷ xs) zero there = subst (λ y. is_working y ≡ false) (same_Some (event.Define (record { 0 = 0 }) (record { 0 = 0 }) x) e there) refl
    in_defines (x ∷ xs) (suc k) there = in_defines xs k there

-- nor does an entry of it
set_up_still : (main : NameId) (units : List Meaning) (es : List (Entry Meaning)) → ((k : ℕ) (e : Entry Meaning) → slice_get es k ≡ Some e → (j : ℕ) × (slice_get (setup_events main units) j ≡ Some e.event)) → AreStill es
set_up_still main units es sets k e there = let s = sets k e there in not_working main units s.0 e.event s.1

-- an event of a list of entries is one of the list of their events
pub event_there : (es : List (Entry Meaning)) (evs : List (Event Meaning)) (k : ℕ) (e : Entry Meaning) → map (λ (x : Entry Meaning). x.event) es ≡ evs → slice_get es k ≡ Some e → slice_get evs k ≡ Some e.event
event_there es evs k e is there = subst (λ l. slice_get l k ≡ Some e.event) is (at es k there)
  where
    at : (xs : List (Entry Meaning)) (k : ℕ) → slice_get xs k ≡ Some e → slice_get (map (λ (x : Entry Meaning). x.event) xs) k ≡ Some e.event
    at [] k there = cc
    at (x ∷ xs) zero there = let is : x ≡ e = cc in ap (λ (y : Entry Meaning). Some y.event) is
    at (x ∷ xs) (suc k) there = at xs k there

-- one of the first events of a list is one of the list
pub taken_there : {X : Type 0} (n k : ℕ) (xs : List X) (x : X) → slice_get (take n xs) k ≡ Some x → slice_get xs k ≡ Some x
taken_there zero k xs x there = cc
taken_there (suc n) k [] x there = cc
taken_there (suc n) zero (y ∷ ys) x there = there
taken_there (suc n) (suc k) (y ∷ ys) x there = taken_there n k ys x there

module _ {U : Type 0} (means : U → Meaning) (jmax workers : ℕ) (main entry : NameId) (units : List Meaning) where
  -- a whole history, in which the workers did jobs, and which ended so
  run_of : (log : List (Entry U)) (setup later : List (Entry Meaning)) → IsWhole means jmax (workers + 2) log setup later → ((s : ℕ) → 1 < s → AreJobs (plain_history means log) (numbered_calls s 1 (plain_history means log))) → (end : Linked) →
      Ended jmax main entry units (plain_history means log) setup later end → (is_whole end ≡ true → NoneIsCut (numbered_calls 1 1 (plain_history means log))) → IsRun jmax workers main entry units (plain_history means log) end
  run_of log setup later w jobs end ended none = record {
    legal = w.legal;
    places = w.places;
    lowest = w.lowest;
    setup = setup;
    later = later;
    parts = w.parts;
    setup_seat = w.setup_seat;
    later_seats = λ k d lt. let b = w.later_seats k d lt in (b.0, omega (arith, b.1));
    workers_do = jobs;
    ended = ended;
    uncut = none;
    none_held = w.none_held;
  }

  -- where only the first seat came
  alone_run : (v : View (Entry U)) (log : List (Entry U)) → IsFirst means jmax v → Shows seat_of (IsLawful means jmax) (IsPosted means) log v →
      ((k : ℕ) (e : Entry Meaning) → slice_get (plain_history means v.seen) k ≡ Some e → (j : ℕ) × (slice_get (setup_events main units) j ≡ Some e.event)) → (end : Linked) →
      Ended jmax main entry units (plain_history means log) (plain_history means v.seen) [] end → IsRun jmax workers main entry units (plain_history means log) end
  alone_run v log f s sets end ended = run_of log (plain_history means v.seen) [] (alone means jmax (workers + 2) v log (omega arith) f s (set_up_still main units (plain_history means v.seen) sets))
      (λ n more. subst (AreJobs (plain_history means log)) (sym (none_of_rest means jmax v log n (omega (arith, more)) f s)) NoJob) end ended
      (λ went. subst NoneIsCut (sym (none_of_rest means jmax v log 1 (omega arith) f s)) (All-nil (λ (c : ℕ × Entry Meaning). is_cut c.1.event ≡ false)))

  -- The definition of a unit was refused, or the set-up was stopped.

  -- the definition of unit k is an event of the set-up
  define_there : (k : ℕ) (unit : Meaning) → slice_get units k ≡ Some unit → slice_get (setup_events main units) (suc (suc k)) ≡ Some (event.Define (record { 0 = 0 }) (record { 0 = 0 }) unit)
  define_there k unit there = mapped units k there
    where
      mapped : (us : List Meaning) (k : ℕ) → slice_get us k ≡ Some unit → slice_get (map (event.Define (record { 0 = 0 }) (record { 0 = 0 })) us) k ≡ Some (event.Define (record { 0 = 0 }) (record { 0 = 0 }) unit)
      mapped [] k there = cc
      mapped (x ∷ xs) zero there = let is : x ≡ unit = cc in ap (λ (y : Meaning). Some (event.Define (record { 0 = 0 }) (record { 0 = 0 }) y)) is
      mapped (x ∷ xs) (suc k) there = mapped xs k there

  refused_sets : (k : ℕ) (h : List (Entry Meaning)) → IsRefusedAt main units k h → (i : ℕ) (e : Entry Meaning) → slice_get h i ≡ Some e → (j : ℕ) × (slice_get (setup_events main units) j ≡ Some e.event)
  refused_sets k h r i e there = by_part r.before i (subst (λ l. slice_get l i ≡ Some e) r.are there) (λ j at. (j, taken_there (2 + k) j (setup_events main units) e.event (event_there r.before (take (2 + k) (setup_events main units)) j e r.first.events at)))
    where
      by_part : (xs : List (Entry Meaning)) (i : ℕ) → slice_get (xs ++ r.last ∷ []) i ≡ Some e → ((j : ℕ) → slice_get xs j ≡ Some e → (l : ℕ) × (slice_get (setup_events main units) l ≡ Some e.event)) → (j : ℕ) × (slice_get (setup_events main units) j ≡ Some e.event)
      by_part [] zero at each = let is : r.last ≡ e = cc in (suc (suc k), define_there k r.unit r.there ∙ ap (λ x. Some x) (sym r.event_is ∙ ap (λ (x : Entry Meaning). x.event) is))
      by_part [] (suc i) at each = cc
      by_part (x ∷ xs) zero at each = each 0 at
      by_part (x ∷ xs) (suc i) at each = by_part xs i at (λ j there. each (suc j) there)

  pub refused_run : (v : View (Entry U)) (log : List (Entry U)) (k : ℕ) → HasSetUp means jmax main units v (set_up.Refused k) → Shows seat_of (IsLawful means jmax) (IsPosted means) log v → IsRunOf means jmax workers main entry units log (outcome.Refused k)
  refused_run v log k (f, refused) s = (
    tt,
    λ end is. subst (IsRun jmax workers main entry units (plain_history means log)) (sym is)
        (alone_run v log f s (refused_sets k (plain_history means v.seen) refused) (linked.Refused k) (InDefinition k refused refl)),
  )

  pub stopped_run : (v : View (Entry U)) (log : List (Entry U)) (st : Stop) → HasSetUp means jmax main units v (set_up.Stopped st) → Shows seat_of (IsLawful means jmax) (IsPosted means) log v → IsRunOf means jmax workers main entry units log (outcome.Stopped st)
  stopped_run v log st (f, (n, few, count, so_far), cause) s = (
    tt,
    λ end is. subst (IsRun jmax workers main entry units (plain_history means log)) (sym is)
        (alone_run v log f s (λ i e there. (i, taken_there n i (setup_events main units) e.event (event_there (plain_history means v.seen) (take n (setup_events main units)) i e so_far.events there))) (linked.Stopped st)
        (InSetUp n st so_far count few refl (cause_in means jmax st log v.seen ([], saw_all means jmax v log f s ∙ sym (append-nil v.seen)) cause))),
  )

  -- Where all seats worked

  module _ (v z : View (Entry U)) (log rest : List (Entry U)) (f : IsFirst means jmax v) (said : Says seat_of log v) (parts : log ≡ v.seen ++ rest) (seats : v.seats ≡ workers + 2) (s : Shows seat_of (IsLawful means jmax) (IsPosted means) log z) (c : ClientEnd)
      (member : (n : ℕ) → 0 < n → n < workers + 2 → IsMember means jmax entry v.seen log n (if n == 1 then Some c else None)) where
    abbrev h : List (Entry Meaning)
    h = plain_history means log

    -- a worker's calls
    worked : (n : ℕ) → 1 < n → n < workers + 2 → Made means log n Works
    worked n more few = by_end (member n (omega (arith, more)) few) (ne_eqb n 1 (λ is. omega (arith, is, more)))
      where
        by_end : IsMember means jmax entry v.seen log n (if n == 1 then Some c else None) → eqb n 1 ≡ false → Made means log n Works
        by_end m other = member_made means log n m.before m.after Works (omega (arith, more)) m.new.number_is m.same (subst (All (λ (e : Entry U). e.seat.0 ≡ 0)) (sym m.new.seen_is) f.own) m.kept
            (subst (λ q. HasServed means jmax entry q m.before m.after (cond q (Some c) None)) other m.served)

    -- the client's calls
    client : IsMember means jmax entry v.seen log 1 (Some c)
    client = member 1 (omega arith) (omega arith)

    client_made : (P : Promise) → Did means client.before client.after P → Made means log 1 P
    client_made P did = member_made means log 1 client.before client.after P (omega arith) client.new.number_is client.same (subst (All (λ (e : Entry U). e.seat.0 ≡ 0)) (sym client.new.seen_is) f.own) client.kept did

    -- the client's places are the lowest too
    client_lowest : PlacesLowest h (numbered_calls 1 1 h)
    client_lowest = by_end c.end c.memory client.served
      where
        by_end : (end : LookEnd) (memory : Option (List Segment)) → IsClient means jmax entry client.before client.after end memory → PlacesLowest h (numbered_calls 1 1 h)
        by_end (look.Found matches) (Some memory) did = let m = client_made (Copies entry (look.Found matches) memory) did in subst (PlacesLowest h) (sym m.calls) m.holds.lowest
        by_end (look.Found matches) None none = absurd none
        by_end (look.Failed i) None did = let m = client_made (Ends entry (look.Failed i)) did in subst (PlacesLowest h) (sym m.calls) m.holds.2
        by_end (look.InError i) None did = let m = client_made (Ends entry (look.InError i)) did in subst (PlacesLowest h) (sym m.calls) m.holds.2
        by_end (look.Missing name) None did = let m = client_made (Ends entry (look.Missing name)) did in subst (PlacesLowest h) (sym m.calls) m.holds.2
        by_end (look.NoDylib d) None did = let m = client_made (Ends entry (look.NoDylib d)) did in subst (PlacesLowest h) (sym m.calls) m.holds.2
        by_end (look.JournalFull len) None (did, cause) = let m = client_made (Begins entry) did in subst (PlacesLowest h) (sym m.calls) m.holds.1
        by_end look.NoMemory None did = let m = client_made (Begins entry) did in subst (PlacesLowest h) (sym m.calls) m.holds.1
        by_end (look.Failed i) (Some memory) none = absurd none
        by_end (look.InError i) (Some memory) none = absurd none
        by_end (look.Missing name) (Some memory) none = absurd none
        by_end (look.NoDylib d) (Some memory) none = absurd none
        by_end (look.JournalFull len) (Some memory) none = absurd none
        by_end look.NoMemory (Some memory) none = absurd none

    -- and unless it was stopped, none of its jobs was cut
    client_uncut : (l : Linked) → ConcludesEnd c.end c.memory l → is_whole l ≡ true → NoneIsCut (numbered_calls 1 1 h)
    client_uncut l = by_end c.end c.memory client.served
      where
        ended : (end : LookEnd) → Did means client.before client.after (Ends entry end) → NoneIsCut (numbered_calls 1 1 h)
        ended end did = let m = client_made (Ends entry end) did in subst NoneIsCut (sym m.calls) (none_is_cut m.made m.holds.3)

        stopped : (st : Stop) → l ≡ linked.Stopped st → is_whole l ≡ true → NoneIsCut (numbered_calls 1 1 h)
        stopped st is went = absurd (both_ways (is_whole l) (ap is_whole is) went)

        by_end : (end : LookEnd) (memory : Option (List Segment)) → IsClient means jmax entry client.before client.after end memory → ConcludesEnd end memory l → is_whole l ≡ true → NoneIsCut (numbered_calls 1 1 h)
        by_end (look.Found matches) (Some memory) did is went = let m = client_made (Copies entry (look.Found matches) memory) did in subst NoneIsCut (sym m.calls) (none_is_cut m.made m.holds.spare)
        by_end (look.Found matches) None none is went = absurd none
        by_end (look.Failed i) None did is went = ended (look.Failed i) did
        by_end (look.InError i) None did is went = absurd is
        by_end (look.Missing name) None did is went = ended (look.Missing name) did
        by_end (look.NoDylib d) None did is went = absurd is
        by_end (look.JournalFull len) None did is went = stopped (stop.JournalFull len) is went
        by_end look.NoMemory None did is went = stopped stop.NoMemory is went
        by_end (look.Failed i) (Some memory) none is went = absurd none
        by_end (look.InError i) (Some memory) none is went = absurd none
        by_end (look.Missing name) (Some memory) none is went = absurd none
        by_end (look.NoDylib d) (Some memory) none is went = absurd none
        by_end (look.JournalFull len) (Some memory) none is went = absurd none
        by_end look.NoMemory (Some memory) none is went = absurd none

    all_lowest : (n : ℕ) → 0 < n → n < workers + 2 → PlacesLowest h (numbered_calls n 1 h)
    all_lowest n some few = by_seat (cases_eq n 1)
      where
        by_seat : (n ≡ 1) ⊎ (n ≡ 1 → ⊥) → PlacesLowest h (numbered_calls n 1 h)
        by_seat (inl is) = subst (λ k. PlacesLowest h (numbered_calls k 1 h)) (sym is) client_lowest
        by_seat (inr other) = let m = worked n (above n some other) few in subst (PlacesLowest h) (sym m.calls) m.holds.1
          where
            above : (k : ℕ) → 0 < k → (k ≡ 1 → ⊥) → 1 < k
            above zero some other = absurd (omega (arith, some))
            above (suc zero) some other = absurd (other refl)
            above (suc (suc k)) some other = omega arith

    all_free : (n : ℕ) → 0 < n → n < workers + 2 → HoldsNone (state h) n
    all_free n some few = let m = member n some few in let_go means jmax log n m.after s.legal.legal m.same m.kept m.free

    module _ (set : IsSetUp main units (plain_history means v.seen)) (sources : All (λ (u : Meaning). u.source ≡ None) units) where
      all_of_it : IsWhole means jmax (workers + 2) log (plain_history means v.seen) (plain_history means rest)
      all_of_it = whole means jmax (workers + 2) v z log rest (omega arith) f said parts seats s (set_up_still main units (plain_history means v.seen) (λ i e there. (i, event_there (plain_history means v.seen) (setup_events main units) i e set.events there))) all_lowest all_free

      -- the workers' calls are jobs
      workers_jobs : (n : ℕ) → 1 < n → AreJobs h (numbered_calls n 1 h)
      workers_jobs n more = by_size (cases_lt n (workers + 2))
        where
          by_size : (n < workers + 2) ⊎ (workers + 2 ≤ n) → AreJobs h (numbered_calls n 1 h)
          by_size (inl few) = let m = worked n more few in subst (AreJobs h) (sym m.calls) (are_jobs h m.made m.holds.0)
          by_size (inr far) = subst (AreJobs h) (sym (all_of_it.beyond n far)) NoJob

      is_run_by : IsRunBy jmax main units h (plain_history means v.seen) (plain_history means rest)
      is_run_by = record { legal = all_of_it.legal; parts = all_of_it.parts; setup_seat = all_of_it.setup_seat; later_seats = λ k d lt. (all_of_it.later_seats k d lt).0; set_up = set; plain_units = sources; workers_do = workers_jobs }

      -- a lookup that ended did so by its last call
      ends_so : (cs copied : List (ℕ × Entry Meaning)) (r : Reply) → numbered_calls 1 1 h ≡ cs ++ copied → Looks h (lookup_of entry) cs → LastIs cs r → EndsLookup entry r
      ends_so cs copied r calls looks last =
          subst (EndsLookup entry) last.reply (lookup_ends_so jmax main entry units h (plain_history means v.seen) (plain_history means rest) is_run_by last.before copied last.number last.entry
          (calls ∙ ap (λ l. l ++ copied) last.are) (subst (Looks h (lookup_of entry)) last.are looks))

      abbrev IsIt : Linked → Type 0
      IsIt end = Ended jmax main entry units h (plain_history means v.seen) (plain_history means rest) end

      -- how it ended
      client_ended : (end : LookEnd) (memory : Option (List Segment)) → IsClient means jmax entry client.before client.after end memory → IsPossibleEnd end memory × ((l : Linked) → ConcludesEnd end memory l → IsIt l)
      client_ended (look.Found matches) (Some memory) did =
          let m = client_made (Copies entry (look.Found matches) memory) did in
          let held = m.holds in
          let calls : numbered_calls 1 1 h ≡ held.looked ++ (held.number, held.copy) ∷ [] = m.calls ∙ held.are in
          let last = held.ends.1 in
          let one = ends_so held.looked ((held.number, held.copy) ∷ []) (reply.Found held.ends.0 matches) calls held.looks last in (
            one,
            λ l found. subst IsIt (sym found.3)
                (IsReady last.before last.number held.number held.ends.0 found.1 last.entry held.copy found.0 memory set (calls ∙ ap (λ xs. xs ++ (held.number, held.copy) ∷ []) last.are) (subst (Looks h (lookup_of entry)) last.are held.looks)
                (last.reply ∙ ap (reply.Found held.ends.0) found.2) held.copies held.has),
          )
      client_ended (look.Found matches) None none = absurd none
      client_ended (look.Failed i) None did =
          let m = client_made (Ends entry (look.Failed i)) did in
          let last = m.holds.1.1 in (
            tt,
            λ l is. subst IsIt (sym is) (NotReady last.before last.number last.entry m.holds.1.0 i set (m.calls ∙ last.are) (subst (Looks h (lookup_of entry)) last.are m.holds.0) last.reply),
          )
      client_ended (look.InError i) None did =
          let m = client_made (Ends entry (look.InError i)) did in
          absurd (ends_so m.made [] (reply.InError i) (m.calls ∙ sym (append-nil m.made)) m.holds.0 m.holds.1)
      client_ended (look.Missing name) None did =
          let m = client_made (Ends entry (look.Missing name)) did in
          let last = m.holds.1 in
          let named = ends_so m.made [] (reply.Missing name) (m.calls ∙ sym (append-nil m.made)) m.holds.0 last in (
            tt,
            λ l is. subst IsIt (sym is) (NotThere last.before last.number last.entry set (m.calls ∙ last.are) (subst (Looks h (lookup_of entry)) last.are m.holds.0) (last.reply ∙ ap reply.Missing named)),
          )
      client_ended (look.NoDylib d) None did =
          let m = client_made (Ends entry (look.NoDylib d)) did in
          absurd (ends_so m.made [] (reply.NoDylib d) (m.calls ∙ sym (append-nil m.made)) m.holds.0 m.holds.1)
      client_ended (look.JournalFull len) None (did, stopped) =
          let m = client_made (Begins entry) did in (
            tt,
            λ l is. subst IsIt (sym is) (InLookup (stop.JournalFull len) set (subst (IsCutShort (LooksAndCopies h entry)) (sym m.calls) m.holds.0) (cause_in means jmax (stop.JournalFull len) log stopped.0 (starts_again log client.after.seen stopped.0 client.kept.later stopped.1) stopped.3)),
          )
      client_ended look.NoMemory None did =
          let m = client_made (Begins entry) did in
          (tt, λ l is. subst IsIt (sym is) (InLookup stop.NoMemory set (subst (IsCutShort (LooksAndCopies h entry)) (sym m.calls) m.holds.0) tt))
      client_ended (look.Failed i) (Some memory) none = absurd none
      client_ended (look.InError i) (Some memory) none = absurd none
      client_ended (look.Missing name) (Some memory) none = absurd none
      client_ended (look.NoDylib d) (Some memory) none = absurd none
      client_ended (look.JournalFull len) (Some memory) none = absurd none
      client_ended look.NoMemory (Some memory) none = absurd none

      client_run : IsRunOf means jmax workers main entry units log (outcome.Client c)
      client_run =
          let e = client_ended c.end c.memory client.served in
          (e.0, λ l is. run_of log (plain_history means v.seen) (plain_history means rest) all_of_it workers_jobs l (e.1 l is) (client_uncut l is))

  pub worked_run : (v z : View (Entry U)) (log : List (Entry U)) (c : ClientEnd) → All (λ (u : Meaning). u.source ≡ None) units → HasSetUp means jmax main units v set_up.Done → v.seats ≡ workers + 2 → Shows seat_of (IsLawful means jmax) (IsPosted means) log z →
      MembersWorked means jmax workers entry v log c → IsRunOf means jmax workers main entry units log (outcome.Client c)
  worked_run v z log c sources (f, set) seats s w = let rest = w.first.later.0 in client_run v z log rest f w.first w.first.later.1 seats s c w.member set sources
