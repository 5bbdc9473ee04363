-- A session that was set up by its first seat, and on which seats behind it worked: the whole history.
use Rattle.std.proofs.Common.{◌≡◌, ℕ, zero, suc, ◌+◌, ◌-◌, ◌<◌, ◌≤◌, ◌⊎◌, inl, inr, true, false, eqb, List, [], ◌∷◌, ◌++◌, length, take, append-nil, refl, sym, ap, ap₂, subst, ◌∙◌, arith, All, Some, slice_get}
use Rattle.std.proofs.lemmas.Bool.{both_ways, cases_eq, cases_lt}
use Rattle.std.proofs.lemmas.List.{length-append, length-map, map-append}
use Rattle.std.proofs.lemmas.List.Elements.{All-nil, filter-append}
use Rattle.list_laws.proofs.Each.{all_at}
use Rattle.orc_ids.specs.declared.ids.UnitId.{UnitId}
use Rattle.orc_ids.specs.declared.lookup.Stop.{Stop}
use Rattle.orc_ids.specs.declared.lookup.Stop.TheVariants as stop
use Rattle.orc_ids.specs.declared.place.Shape.{Shape}
use Rattle.session_model.specs.Calls.{numbered_calls}
use Rattle.session_model.specs.History.{IsLegal, HasPlaces}
use Rattle.session_model.specs.Meaning.{Meaning}
use Rattle.session_model.specs.Plain.{kept}
use Rattle.session_model.specs.State.{plain_entry, plain_history, state}
use Rattle.session_model.specs.declared.entry.Entry.{Entry}
use Rattle.session_model.specs.declared.entry.Event.TheVariants as event
use Rattle.session_model.specs.declared.entry.Reply.TheVariants as reply
use Rattle.session_steps.specs.Handed.{IsLowest}
use Rattle.materialization.specs.Rest.{HoldsNone}
use Rattle.materialization.specs.declared.stage.Stage.TheVariants as stage
use Rattle.materialization.proofs.Leaving.{others_leave_has}
use Rattle.turn_lock.specs.declared.view.View.{View}
use Rattle.turn_lock.specs.Lists.{StartsWith, entries_of}
use Rattle.turn_lock.specs.Told.{Shows}
use Rattle.turn_lock.proofs.Entries.{none_since}
use Rattle.shared_session.specs.Carried.{all_others}
use Rattle.shared_session.specs.Home.{IsLawful, IsPosted, seat_of}
use Rattle.shared_session.specs.Did.{calls_in}
use Rattle.shared_session.proofs.Numbers.{numbered_none, plain_starts, taken_start}
use Rattle.link_worker.specs.Does.{PlacesLowest}
use Rattle.link_worker.specs.Jobs.{IsCause}
use Rattle.link_worker.specs.Works.{Jobs, None', OneMore}
use Rattle.link_worker.proofs.Telling.{is_placing, lowest_none}
use Rattle.run_laws.specs.Ended.{IsCauseIn, IsCrowded, PlacesAreLowest}
use Rattle.run_laws.specs.Runs.{AreJobs, NoJob, OneMore as AnotherJob}
use Rattle.crew.specs.Crew.{Says}
use Rattle.link_worker.specs.First.{IsFirst}
use Rattle.link_worker.proofs.Calls.{call_at, later_seats, none_beyond, none_of_other}
use Rattle.link_worker.proofs.FirstSeat.{rest_below, saw_all}
use Rattle.link_worker.proofs.Held.{AreStill, all_let_go, none_at_first, none_is_held, not_placing, still_free}
use Rattle.link_worker.proofs.NewSeats.{new_is_free, plain_all}

-- jobs by both words
pub are_jobs : (h : List (Entry Meaning)) (cs : List (ℕ × Entry Meaning)) → Jobs h cs → AreJobs h cs
are_jobs h cs None' = NoJob
are_jobs h cs (OneMore before job jobs one) = AnotherJob before job (are_jobs h before jobs) one

-- by the calls of each seat behind the first
lowest_places : (h setup later : List (Entry Meaning)) → h ≡ setup ++ later → AreStill setup → All (λ (e : Entry Meaning). 0 < e.seat.0) later → ((s : ℕ) → 0 < s → PlacesLowest h (numbered_calls s 1 h)) → PlacesAreLowest h
lowest_places h setup later parts still behind each n base other e u shape there is placed free = by_part (split setup later n e (subst (λ l. slice_get l n ≡ Some e) parts there))
  where
    -- an element of two lists is one of the first or of the second
    split : (xs ys : List (Entry Meaning)) (k : ℕ) (x : Entry Meaning) → slice_get (xs ++ ys) k ≡ Some x → (slice_get xs k ≡ Some x) ⊎ ((j : ℕ) × (slice_get ys j ≡ Some x))
    split [] ys k x at = inr (k, at)
    split (y ∷ xs) ys zero x at = inl at
    split (y ∷ xs) ys (suc k) x at = split xs ys k x at

    in_calls : 0 < e.seat.0 → base ≤ other
    in_calls some =
        let call = call_at e.seat.0 1 n h e there refl in
        let low : IsLowest (state (take ((1 + n) - 1) h)) shape e.reply = all_at (λ (c : ℕ × Entry Meaning). (u : UnitId) (shape : Shape) → c.1.event ≡ event.Place u shape → IsLowest (state (take (c.0 - 1) h)) shape c.1.reply) (numbered_calls e.seat.0 1 h) call.0 (1 + n, e) (each e.seat.0 some) call.1 u shape is in
        let number : (1 + n) - 1 ≡ n = omega arith in
        subst (λ k. IsLowest (state (take k h)) shape (reply.Placed base)) number (subst (λ r. IsLowest (state (take ((1 + n) - 1) h)) shape r) placed low) other free

    by_part : (slice_get setup n ≡ Some e) ⊎ ((j : ℕ) × (slice_get later j ≡ Some e)) → base ≤ other
    by_part (inl at) = absurd (both_ways true (sym (subst (λ x. is_placing x ≡ true) (sym is) refl) ∙ not_placing e.event (still n e at)) refl)
    by_part (inr (j, at)) = in_calls (all_at (λ (x : Entry Meaning). 0 < x.seat.0) later j e behind at)

module _ {U : Type 0} (means : U → Meaning) (jmax : ℕ) where
  -- What the whole history is: legal, within its places, the set-up first, and each unit placed at the lowest base; and in the end no
  -- unit is held. The seats behind the first are those below `seats`.
  pub record IsWhole (seats : ℕ) (log : List (Entry U)) (setup later : List (Entry Meaning)) : Type 0 where
    pub legal : IsLegal jmax (plain_history means log)
    pub places : HasPlaces jmax (plain_history means log)
    pub parts : plain_history means log ≡ setup ++ later
    pub setup_seat : All (λ (e : Entry Meaning). e.seat.0 ≡ 0) setup
    pub later_seats : All (λ (e : Entry Meaning). (0 < e.seat.0) × (e.seat.0 < seats)) later
    pub beyond : (n : ℕ) → seats ≤ n → numbered_calls n 1 (plain_history means log) ≡ []
    pub lowest : PlacesAreLowest (plain_history means log)
    pub none_held : kept (state (plain_history means log)) ≡ 0

  -- what the first seat did gives nobody a unit
  first_holds_none : (v : View (Entry U)) → IsFirst means jmax v → AreStill (plain_history means v.seen) → HoldsNone (state (plain_history means v.seen)) 0
  first_holds_none v f still = still_free 0 [] (plain_history means v.seen) (plain_all means (λ n. n ≡ 0) v.seen f.own) still (none_at_first 0)

  first_alone : (n : ℕ) (v : View (Entry U)) → IsFirst means jmax v → AreStill (plain_history means v.seen) → (n ≡ 0) ⊎ (n ≡ 0 → ⊥) → HoldsNone (state (plain_history means v.seen)) n
  first_alone n v f still (inl is) = subst (λ k. HoldsNone (state (plain_history means v.seen)) k) (sym is) (first_holds_none v f still)
  first_alone zero v f still (inr other) = absurd (other refl)
  first_alone (suc n) v f still (inr other) = new_is_free means jmax v.seen (suc n) (omega arith) f.lawful.legal f.own

  -- where only the first seat came, no other has a call
  pub none_of_rest : (v : View (Entry U)) (log : List (Entry U)) (n : ℕ) → 0 < n → IsFirst means jmax v → Shows seat_of (IsLawful means jmax) (IsPosted means) log v → numbered_calls n 1 (plain_history means log) ≡ []
  none_of_rest v log n more f s = ap (λ l. calls_in means n l) (saw_all means jmax v log f s) ∙ numbered_none means n 1 v.seen (none_of_other n v.seen more f.own)

  -- and the history is what it has seen
  pub alone : (seats : ℕ) (v : View (Entry U)) (log : List (Entry U)) → 0 < seats → IsFirst means jmax v → Shows seat_of (IsLawful means jmax) (IsPosted means) log v → AreStill (plain_history means v.seen) →
      IsWhole seats log (plain_history means v.seen) []
  alone seats v log some f s still =
      let plain : plain_history means log ≡ plain_history means v.seen ++ [] = ap (plain_history means) (saw_all means jmax v log f s) ∙ sym (append-nil (plain_history means v.seen)) in
      let none : (n : ℕ) → 0 < n → numbered_calls n 1 (plain_history means log) ≡ [] = λ n more. none_of_rest v log n more f s in
      record {
        legal = s.legal.legal;
        places = s.legal.places;
        parts = plain;
        setup_seat = plain_all means (λ n. n ≡ 0) v.seen f.own;
        later_seats = All-nil (λ (e : Entry Meaning). (0 < e.seat.0) × (e.seat.0 < seats));
        beyond = λ n far. none n (omega (arith, some, far));
        lowest = lowest_places (plain_history means log) (plain_history means v.seen) [] plain still (All-nil (λ (e : Entry Meaning). 0 < e.seat.0)) (λ n more. subst (PlacesLowest (plain_history means log)) (sym (none n more)) (lowest_none (plain_history means log)));
        none_held = subst (λ l. kept (state l) ≡ 0) (sym (ap (plain_history means) (saw_all means jmax v log f s))) (none_is_held (state (plain_history means v.seen)) (λ n. first_alone n v f still (cases_eq n 0)));
      }

  -- what is behind what the first seat had seen before the others worked
  module _ (seats : ℕ) (v z : View (Entry U)) (log rest : List (Entry U)) (some : 0 < seats) (f : IsFirst means jmax v) (said : Says seat_of log v) (parts : log ≡ v.seen ++ rest) (count : v.seats ≡ seats) (s : Shows seat_of (IsLawful means jmax) (IsPosted means) log z) where
    none_of_first : entries_of seat_of 0 rest ≡ []
    none_of_first = subst (λ n. entries_of seat_of n rest ≡ []) f.number (none_since seat_of v.number v.mine v.seen rest f.mine (ap (entries_of seat_of v.number) (sym parts) ∙ said.mine))

    below : All (λ (e : Entry U). seat_of e < seats) rest
    below = subst (λ n. All (λ (e : Entry U). seat_of e < n) rest) count (rest_below v.seats v.seen rest (subst (All (λ (e : Entry U). seat_of e < v.seats)) parts said.below))

    within : All (λ (e : Entry U). (0 < e.seat.0) × (e.seat.0 < seats)) rest
    within k d lt = (later_seats rest none_of_first k d lt, below k d lt)

    -- no other seat has a call
    none_of_others : (n : ℕ) → seats ≤ n → numbered_calls n 1 (plain_history means log) ≡ []
    none_of_others n far = numbered_none means n 1 log (ap (entries_of seat_of n) parts ∙ (filter-append (λ e. eqb (seat_of e) n) v.seen rest ∙ (ap₂ (λ xs ys. xs ++ ys) (none_of_other n v.seen (omega (arith, far, some)) f.own) (none_beyond seats n rest far below))))

    pub whole : AreStill (plain_history means v.seen) → ((n : ℕ) → 0 < n → n < seats → PlacesLowest (plain_history means log) (calls_in means n log)) → ((n : ℕ) → 0 < n → n < seats → HoldsNone (state (plain_history means log)) n) → IsWhole seats log (plain_history means v.seen) (plain_history means rest)
    whole still each free =
        let plain : plain_history means log ≡ plain_history means v.seen ++ plain_history means rest = ap (plain_history means) parts ∙ map-append (plain_entry means) v.seen rest in
        record {
          legal = s.legal.legal;
          places = s.legal.places;
          parts = plain;
          setup_seat = plain_all means (λ n. n ≡ 0) v.seen f.own;
          later_seats = plain_all means (λ n. (0 < n) × (n < seats)) rest within;
          beyond = none_of_others;
          lowest = lowest_places (plain_history means log) (plain_history means v.seen) (plain_history means rest) plain still (plain_all means (λ n. 0 < n) rest (later_seats rest none_of_first)) lows;
          none_held = all_let_go jmax seats (plain_history means log) s.legal.legal (plain_all means (λ n. n < seats) log (subst (λ n. All (λ (e : Entry U). seat_of e < n) log) count said.below)) (λ n few. by_seat n few (cases_eq n 0));
        }
      where
        -- the first seat took no job
        first_free : HoldsNone (state (plain_history means log)) 0
        first_free =
            let plain : plain_history means log ≡ plain_history means v.seen ++ plain_history means rest = ap (plain_history means) parts ∙ map-append (plain_entry means) v.seen rest in
            subst (λ l. HoldsNone (state l) 0) (sym plain) (others_leave_has jmax (plain_history means v.seen) (plain_history means rest) (subst (IsLegal jmax) plain s.legal.legal) 0 0 (all_others means 0 rest none_of_first) stage.Over
            (first_holds_none v f still))

        by_seat : (n : ℕ) → n < seats → (n ≡ 0) ⊎ (n ≡ 0 → ⊥) → HoldsNone (state (plain_history means log)) n
        by_seat n few (inl is) = subst (λ k. HoldsNone (state (plain_history means log)) k) (sym is) first_free
        by_seat zero few (inr other) = absurd (other refl)
        by_seat (suc n) few (inr other) = free (suc n) (omega arith) few

        lows : (n : ℕ) → 0 < n → PlacesLowest (plain_history means log) (numbered_calls n 1 (plain_history means log))
        lows n more = by_size (cases_lt n seats)
          where
            by_size : (n < seats) ⊎ (seats ≤ n) → PlacesLowest (plain_history means log) (numbered_calls n 1 (plain_history means log))
            by_size (inl few) = each n more few
            by_size (inr far) = subst (PlacesLowest (plain_history means log)) (sym (none_of_others n far)) (lowest_none (plain_history means log))

module _ {U : Type 0} (means : U → Meaning) (jmax : ℕ) where
  -- a stop's cause, in a history that begins with where it was
  pub cause_in : (st : Stop) (log at : List (Entry U)) → StartsWith log at → IsCause means jmax at st → IsCauseIn jmax (plain_history means log) st
  cause_in (stop.JournalFull len) log at later (is, crowded) =
      let begins = plain_starts means log at later in
      let count : length (plain_history means at) ≡ len = length-map at (plain_entry means) ∙ sym is in (
        omega (arith, ap length begins.1, length-append (plain_history means at) begins.0, count),
        subst (λ l. IsCrowded jmax l) (sym (taken_start (plain_history means log) (plain_history means at) begins) ∙ ap (λ n. take n (plain_history means log)) count) crowded,
      )
  cause_in stop.NoMemory log at later c = tt
