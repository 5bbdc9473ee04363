-- A collect of a lookup's query: its end, or that it is still open.
use Rattle.std.proofs.Common.{◌≡◌, ℕ, ◌+◌, ◌≤◌, nat_lt, true, List, [], ◌∷◌, ◌++◌, length, take, slice_get, inl, append-nil, length-append, refl, sym, ap, subst, ◌∙◌, arith, Option, Some, None, Result, Ok, Err}
use Rattle.std.proofs.lemmas.Bool.{ltb-true}
use Rattle.std.proofs.lemmas.List.{take-append-le}
use Rattle.std.proofs.lemmas.List.Elements.{All-nil}
use Rattle.std.proofs.lemmas.Option.{none-some, same_Some}
use Rattle.orc_ids.specs.declared.ids.QueryId.{QueryId}
use Rattle.orc_ids.specs.declared.lookup.Outcome.{Outcome}
use Rattle.orc_ids.specs.declared.lookup.Stop.{Stop}
use Rattle.orc_ids.specs.declared.lookup.Stop.TheVariants as stop
use Rattle.session_model.specs.Calls.{Works}
use Rattle.session_model.specs.Meaning.{Meaning}
use Rattle.session_model.specs.Plain.{Plain, empty, kept}
use Rattle.session_model.specs.History.{HasPlaces, IsLegal}
use Rattle.session_model.specs.State.{IsOpen, plain_entry, plain_history, state}
use Rattle.session_model.specs.declared.entry.Entry.{Entry}
use Rattle.session_model.specs.declared.entry.Event.{Event}
use Rattle.session_model.specs.declared.entry.Event.TheVariants as event
use Rattle.session_model.specs.declared.entry.Reply.{Reply}
use Rattle.session_model.specs.declared.entry.Reply.TheVariants as reply
use Rattle.session_model.specs.declared.rows.Query.{Query}
use Rattle.session_laws.proofs.Declared.{element_below, entries_are, query_stays, kept_within, state_from_joined}
use Rattle.notifiers.specs.declared.notice.Notice.{Notice}
use Rattle.history_laws.proofs.Unlodged.{unstirred}
use Rattle.turn_lock.specs.declared.view.View.{View}
use Rattle.turn_lock.specs.Lists.{StartsWith}
use Rattle.session_steps.specs.Performs.{Collects, state_of}
use Rattle.shared_session.specs.Does.{seat}
use Rattle.shared_session.specs.Did.{Did, Nothing, Single}
use Rattle.shared_session.proofs.Doing.{nothing_is_done}
use Rattle.shared_session.proofs.Numbers.{plain_starts, taken_start}
use Rattle.link_worker.specs.Does.{Does}
use Rattle.link_worker.specs.Jobs.{IsCause, LacksPlaces, SpareAll}
use Rattle.session_model.specs.Ends.{EndsAs}
use Rattle.session_model.specs.Stopped.{IsCutShort}
use Rattle.link_worker.specs.Looks.{HasAwaited, IsLodgedBy, Waits, end_in, end_stopped}
use Rattle.link_worker.specs.Works.{IsFree, OneJob, OneJobAtMost}
use Rattle.session_model.specs.declared.look_end.LookEnd.{LookEnd}
use Rattle.session_model.specs.declared.look_end.LookEnd.TheVariants as end
use Rattle.link_worker.proofs.Awaiting.{OpenAt, StillWaits, seen_count, there_on, waits_cut, waits_end, waits_idle, waits_on, waits_still, waits_stopped}
use Rattle.link_worker.proofs.Freeing.{collect_untaken, free_after}
use Rattle.link_worker.proofs.Knowing.{Between, does_known}
use Rattle.link_worker.proofs.Sparing.{spare_none}
use Rattle.link_worker.proofs.Telling.{does_both, does_less, does_none, does_one, places_nothing, told_none}
use Rattle.link_worker.proofs.Turning.{TurnOf, found, legal_after, no_call, one_call, seen_is}
use Rattle.link_worker.proofs.Working.{still_free, stopped_now, stopped_since}

-- the journal lacks the one place that a call needs
pub one_lacks : (jmax : ℕ) (h : List (Entry Meaning)) (s : ℕ) (e : Event Meaning) → IsLegal jmax h → HasPlaces jmax h → nat_lt jmax ((state h).entries + kept (state h) + 1) ≡ true → LacksPlaces jmax h
one_lacks jmax h s e legal had full = inl (omega (arith, entries_are h, kept_within jmax h legal had, ltb-true jmax ((state h).entries + kept (state h) + 1) full))

-- a pass that has seen more has seen more entries
count_grows : {U : Type 0} (means : U → Meaning) (x y : View (Entry U)) → StartsWith y.seen x.seen → seen_count means x ≤ seen_count means y
count_grows means x y later = let p = plain_starts means y.seen x.seen later in omega (arith, ap length p.1, length-append (plain_history means x.seen) p.0)

module _ {U N : Type 0} (means : U → Meaning) (hears : N → Option Outcome) (jmax : ℕ) (q : QueryId) (n : ℕ) where
  -- at first nothing was done since call n
  pub waits_first : (v : View (Entry U)) (a : List (Notice N)) → IsLodgedBy means v q n → Does means hears v v a a (Waits q n (seen_count means v))
  waits_first v a k = does_less means hears v v a a _ (Waits q n (seen_count means v)) follows
      (does_known means hears v v a a Nothing (does_none means hears v v a Nothing (λ h. refl) (nothing_is_done means v)) (λ h. slice_get (state (take n h)).queries q.0 ≡ Some k.query) known)
    where
      known : (h : List (Entry Meaning)) → StartsWith h (plain_history means v.seen) → slice_get (state (take n h)).queries q.0 ≡ Some k.query
      known h starts = subst (λ l. slice_get (state l).queries q.0 ≡ Some k.query) (sym (ap (take n) starts.1 ∙ take-append-le n (plain_history means v.seen) starts.0 k.within)) k.there

      follows : (h : List (Entry Meaning)) (cs : List (ℕ × Entry Meaning)) → (cs ≡ []) × (slice_get (state (take n h)).queries q.0 ≡ Some k.query) × Between (seen_count means v) (seen_count means v) cs → Waits q n (seen_count means v) h cs
      follows h cs p = subst (Waits q n (seen_count means v) h) (sym p.0) (record { last = n; within = k.within; query = k.query; there = p.1; rest = λ ds works. works; spare = spare_none })

  module _ (v x y : View (Entry U)) (a b : List (Notice N)) (so : Does means hears v x a b (Waits q n (seen_count means x))) where
    abbrev pub CollectOf : Result Reply Stop → Type 0
    CollectOf answer = TurnOf means jmax x y (λ old new. Collects means jmax old new (seat x.number) q answer)

    abbrev collected : Reply → Entry U
    collected r = record { seat = seat x.number; event = event.Collect q; reply = r }

    -- the one call that took the end
    one : (r : Reply) (does : List (Entry U) → List (Entry U) → Type 0) (t : TurnOf means jmax x y does) → t.new ≡ t.old ++ collected r ∷ [] → Does means hears x y b b (Single (plain_history means t.old) (plain_entry means (collected r)))
    one r does t grown = does_one means hears x y (plain_history means t.old) (plain_entry means (collected r)) b b [] (sym (append-nil b)) (All-nil (λ m. hears m.what ≡ Some m.outcome))
        (told_none jmax (plain_history means t.old) (plain_entry means (collected r)) (legal_after means jmax x y does t (collected r) grown) (unstirred (state (plain_history means t.old)) x.number (event.Collect q) r refl)) (places_nothing (state (plain_history means t.old)) (event.Collect q) r refl)
        (Single (plain_history means t.old) (plain_entry means (collected r))) (λ h cs s. s) (one_call means jmax x y does t (collected r) refl grown)

    -- what the pass has done at the end of the query
    pub collected_end : (r : Reply) (e : LookEnd) → end_in r ≡ Some e → CollectOf (Ok r) → HasAwaited means hears jmax v y a b q n e
    collected_end (reply.Found at matches) e is t = subst (HasAwaited means hears jmax v y a b q n) (same_Some (end.Found matches) e is)
        (does_both means hears v x y a b b (Waits q n (seen_count means x)) (Single (plain_history means t.old) (plain_entry means (collected (reply.Found at matches)))) (λ h cs. Works h q n cs × EndsAs (end.Found matches) cs × SpareAll cs)
        (λ h cs ds w s. let p = waits_end q n (seen_count means x) (length (plain_history means t.old) + 1) h cs ds (plain_entry means (collected (reply.Found at matches))) w refl refl s.0 in (p.0, (at, p.1), p.2))
        so (one (reply.Found at matches) _ t t.did.grown))
    collected_end (reply.Lost at i) e is t = subst (HasAwaited means hears jmax v y a b q n) (same_Some (end.Failed i) e is)
        (does_both means hears v x y a b b (Waits q n (seen_count means x)) (Single (plain_history means t.old) (plain_entry means (collected (reply.Lost at i)))) (λ h cs. Works h q n cs × EndsAs (end.Failed i) cs × SpareAll cs)
        (λ h cs ds w s. let p = waits_end q n (seen_count means x) (length (plain_history means t.old) + 1) h cs ds (plain_entry means (collected (reply.Lost at i))) w refl refl s.0 in (p.0, (at, p.1), p.2))
        so (one (reply.Lost at i) _ t t.did.grown))
    collected_end _ e is t = absurd (none-some e is)

    pub collected_free : (r : Reply) (e : LookEnd) → end_in r ≡ Some e → IsFree means x → CollectOf (Ok r) → IsFree means y
    collected_free (reply.Found at matches) e is free t = free_after means jmax x y free _ t (event.Collect q) (reply.Found at matches) t.did.grown (collect_untaken (state (plain_history means t.old)) x.number q (reply.Found at matches))
    collected_free (reply.Lost at i) e is free t = free_after means jmax x y free _ t (event.Collect q) (reply.Lost at i) t.did.grown (collect_untaken (state (plain_history means t.old)) x.number q (reply.Lost at i))
    collected_free _ e is free t = absurd (none-some e is)

    -- the call was stopped
    pub collect_stopped : (st : Stop) → IsFree means x → CollectOf (Err st) → HasAwaited means hears jmax v y a b q n (end_stopped st) × IsFree means y
    collect_stopped (stop.JournalFull len) free t =
        let s = t.did.0 in
        let none = no_call means jmax x y _ t s.0 in
        let lawful = t.passed.shows.legal in (
          (
            cut (does_none means hears x y b Nothing (λ h. refl) none),
            stopped_since means jmax v.seen x.seen y.seen (stop.JournalFull len) so.did.later (stopped_now means jmax x.seen y.seen (stop.JournalFull len) none.later
                (subst (λ l. IsCause means jmax l (stop.JournalFull len)) (sym (seen_is means jmax x y _ t ∙ s.0)) (s.1.length, one_lacks jmax (plain_history means t.old) x.number (event.Collect q) lawful.legal lawful.places s.1.full))),
          ),
          still_free means jmax x y free _ t s.0,
        )
      where
        cut : Does means hears x y b b Nothing → Does means hears v y a b (λ h cs. IsCutShort (Works h q n) cs)
        cut none = does_both means hears v x y a b b (Waits q n (seen_count means x)) Nothing (λ h cs. IsCutShort (Works h q n) cs)
            (λ h cs ds w e. subst (IsCutShort (Works h q n)) (sym (append-nil cs) ∙ ap (λ l. cs ++ l) (sym e)) (waits_stopped q n (seen_count means x) h cs w)) so none
    collect_stopped stop.NoMemory free t = (
      does_both means hears v x y a b b (Waits q n (seen_count means x)) Nothing (λ h cs. IsCutShort (Works h q n) cs)
          (λ h cs ds w e. subst (IsCutShort (Works h q n)) (sym (append-nil cs) ∙ ap (λ l. cs ++ l) (sym e)) (waits_stopped q n (seen_count means x) h cs w)) so (does_none means hears x y b Nothing (λ h. refl) (no_call means jmax x y _ t t.did.0)),
      still_free means jmax x y free _ t t.did.0,
    )

    -- the query is there in what the pass had seen
    query_there : (query : Query) × (slice_get (state (plain_history means x.seen)).queries q.0 ≡ Some query)
    query_there =
        let w = (so.did.holds (plain_history means x.seen) ([], sym (append-nil (plain_history means x.seen)))).0 in (
          w.query,
          subst (λ l. slice_get (state l).queries q.0 ≡ Some w.query) (taken_start (plain_history means x.seen) (plain_history means x.seen) ([], sym (append-nil (plain_history means x.seen))))
              (there_on (plain_history means x.seen) w.last (seen_count means x) q.0 w.query w.within w.there),
        )

    -- the query is still open
    pub still_open : (r : Reply) → end_in r ≡ None → CollectOf (Ok r) → Does means hears v y a b (StillWaits q n (seen_count means y))
    still_open (reply.Found at matches) is t = absurd (none-some (end.Found matches) (sym is))
    still_open (reply.Lost at i) is t = absurd (none-some (end.Failed i) (sym is))
    still_open (reply.Unknown u) is t = unknown t.did.answered.1
      where
        there : slice_get (state_of means t.old).queries q.0 ≡ Some query_there.0
        there = subst (λ l. slice_get (state l).queries q.0 ≡ Some query_there.0) (sym (found means jmax x y _ t).grown)
            (subst (λ (m : Plain). slice_get m.queries q.0 ≡ Some query_there.0) (sym (state_from_joined empty (plain_history means x.seen) (plain_history means (found means jmax x y _ t).more)))
            (query_stays (state (plain_history means x.seen)) (plain_history means (found means jmax x y _ t).more) q.0 query_there.0 query_there.1))

        unknown : length (state_of means t.old).queries ≤ q.0 → Does means hears v y a b (StillWaits q n (seen_count means y))
        unknown past = let below = element_below (state_of means t.old).queries q.0 query_there.0 there in absurd (omega (arith, past, below))
    still_open reply.Open is t = does_both means hears v x y a b b (Waits q n (seen_count means x)) (λ h cs. (cs ≡ []) × OpenAt q (seen_count means y) h × Between (seen_count means x) (seen_count means y) cs) (StillWaits q n (seen_count means y))
        (λ h cs ds w p. subst (StillWaits q n (seen_count means y) h) (sym (append-nil cs) ∙ ap (λ l. cs ++ l) (sym p.0)) (waits_still q n (seen_count means x) (seen_count means y) h cs (count_grows means x y none.later) w p.1))
        so (does_known means hears x y b b Nothing (does_none means hears x y b Nothing (λ h. refl) none) (OpenAt q (seen_count means y)) known)
      where
        none : Did means x y Nothing
        none = no_call means jmax x y _ t t.did.0

        at_old : plain_history means t.old ≡ plain_history means y.seen
        at_old = ap (plain_history means) (sym (seen_is means jmax x y _ t ∙ t.did.0))

        known : (h : List (Entry Meaning)) → StartsWith h (plain_history means y.seen) → OpenAt q (seen_count means y) h
        known h starts =
            let same = taken_start h (plain_history means y.seen) starts in
            record {
              here = omega (arith, ap length starts.1, length-append (plain_history means y.seen) starts.0);
              query = t.did.1.query;
              there = subst (λ l. slice_get (state l).queries q.0 ≡ Some t.did.1.query) (at_old ∙ sym same) t.did.1.there;
              unsettled = subst (λ l. IsOpen l t.did.1.query) (at_old ∙ sym same) t.did.1.unsettled;
            }
    still_open _ is t = absurd t.did.answered

    pub still_open_free : (r : Reply) → end_in r ≡ None → IsFree means x → CollectOf (Ok r) → IsFree means y
    still_open_free (reply.Found at matches) is free t = absurd (none-some (end.Found matches) (sym is))
    still_open_free (reply.Lost at i) is free t = absurd (none-some (end.Failed i) (sym is))
    still_open_free (reply.Unknown u) is free t = free_after means jmax x y free _ t (event.Collect q) (reply.Unknown u) t.did.grown (collect_untaken (state (plain_history means t.old)) x.number q (reply.Unknown u))
    still_open_free reply.Open is free t = still_free means jmax x y free _ t t.did.0
    still_open_free _ is free t = absurd t.did.answered

  -- a job while the query was open
  module _ (v y z : View (Entry U)) (a b c : List (Notice N)) (so : Does means hears v y a b (StillWaits q n (seen_count means y))) where
    pub work_did : Does means hears y z b c OneJob → Does means hears v z a c (Waits q n (seen_count means z))
    work_did job = does_both means hears v y z a b c (StillWaits q n (seen_count means y)) (λ h cs. OneJob h cs × Unit {0} × Between (seen_count means y) (seen_count means z) cs) (Waits q n (seen_count means z))
        (λ h cs ds w p. waits_on q n (seen_count means y) (seen_count means z) h cs ds w p.0.0 p.0.1 p.2) so (does_known means hears y z b c OneJob job (λ h. Unit {0}) (λ h starts. tt))

    pub work_idle : Does means hears y z b c Nothing → Does means hears v z a c (Waits q n (seen_count means z))
    work_idle none = does_both means hears v y z a b c (StillWaits q n (seen_count means y)) Nothing (Waits q n (seen_count means z))
        (λ h cs ds w e. waits_idle q n (seen_count means y) (seen_count means z) h cs ds (count_grows means y z none.did.later) w e) so none

    pub work_cut : Does means hears y z b c OneJobAtMost → Does means hears v z a c (λ h cs. IsCutShort (Works h q n) cs)
    work_cut job = does_both means hears v y z a b c (StillWaits q n (seen_count means y)) OneJobAtMost (λ h cs. IsCutShort (Works h q n) cs)
        (λ h cs ds w p. waits_cut q n (seen_count means y) (seen_count means z) h cs ds (count_grows means y z job.did.later) w p) so job
