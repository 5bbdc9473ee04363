-- What the one seat that is there makes of the history: nobody else has an entry.
use Rattle.std.proofs.Common.{◌≡◌, ℕ, ◌+◌, ◌<◌, ◌≤◌, Bool, true, false, cond, zero, suc, eqb, eq-eqb, List, [], ◌∷◌, ◌++◌, length, append-nil, refl, sym, ap, subst, ◌∙◌, arith, All, Result, Ok, Err}
use Rattle.std.specs.Prelude.{nat_lt}
use Rattle.std.proofs.lemmas.Bool.{both_ways}
use Rattle.std.proofs.lemmas.List.Elements.{All-append, All-cons, All-head, All-nil, All-tail}
use Rattle.orc_ids.specs.declared.lookup.Stop.{Stop}
use Rattle.orc_ids.specs.declared.lookup.Stop.TheVariants as stop
use Rattle.session_model.specs.Answer.{Answers}
use Rattle.session_model.specs.History.{is_full, places}
use Rattle.session_model.specs.Meaning.{Meaning}
use Rattle.session_model.specs.Plain.{kept}
use Rattle.session_model.specs.State.{plain_event, plain_history}
use Rattle.session_model.specs.declared.entry.Entry.{Entry}
use Rattle.session_model.specs.declared.entry.Event.{Event}
use Rattle.session_model.specs.declared.entry.Reply.{Reply}
use Rattle.session_steps.specs.Performs.{Performs, state_of}
use Rattle.turn_lock.specs.declared.view.View.{View}
use Rattle.turn_lock.specs.Lists.{entries_of}
use Rattle.turn_lock.specs.Passes.{Passed}
use Rattle.turn_lock.specs.Told.{Shows}
use Rattle.turn_lock.proofs.Entries.{none_seen, none_since}
use Rattle.shared_session.specs.Does.{seat}
use Rattle.shared_session.specs.Home.{IsLawful, IsPosted, seat_of}
use Rattle.link_worker.specs.Jobs.{IsCause}
use Rattle.link_worker.proofs.Collecting.{one_lacks}
use Rattle.link_worker.proofs.Turning.{TurnOf}
use Rattle.link_worker.specs.First.{IsFirst}

module _ {U : Type 0} where
  -- of its own seat an entry is one
  own_entry : (e : Entry U) (es : List (Entry U)) → entries_of seat_of (seat_of e) (e ∷ es) ≡ [] → ⊥
  own_entry e es none = refuse (eqb (seat_of e) (seat_of e)) (eq-eqb (seat_of e) (seat_of e) refl) none
    where
      refuse : (c : Bool) → c ≡ true → cond c (e ∷ entries_of seat_of (seat_of e) es) (entries_of seat_of (seat_of e) es) ≡ [] → ⊥
      refuse true is there = let some : length (e ∷ entries_of seat_of (seat_of e) es) ≡ 0 = ap length there in absurd (omega arith)
      refuse false is there = absurd (both_ways false refl is)

  -- where no seat has an entry, there is none
  pub none_there : (seats : ℕ) (rest : List (Entry U)) → All (λ (e : Entry U). seat_of e < seats) rest → ((n : ℕ) → n < seats → entries_of seat_of n rest ≡ []) → rest ≡ []
  none_there seats [] below none = refl
  none_there seats (e ∷ es) below none = absurd (own_entry e es (none (seat_of e) (All-head (λ (x : Entry U). seat_of x < seats) e es below)))

  -- what is behind a list, of whose seats none has an entry
  pub rest_below : (seats : ℕ) (xs ys : List (Entry U)) → All (λ (e : Entry U). seat_of e < seats) (xs ++ ys) → All (λ (e : Entry U). seat_of e < seats) ys
  rest_below seats [] ys below = below
  rest_below seats (x ∷ xs) ys below = rest_below seats xs ys (All-tail (λ (e : Entry U). seat_of e < seats) x (xs ++ ys) below)

module _ {U : Type 0} (means : U → Meaning) (jmax : ℕ) where
  -- the first seat has seen all there is
  pub saw_all : (v : View (Entry U)) (old : List (Entry U)) → IsFirst means jmax v → Shows seat_of (IsLawful means jmax) (IsPosted means) old v → old ≡ v.seen
  saw_all v old first s =
      let rest = s.later.0 in
      let below = rest_below v.seats v.seen rest (subst (All (λ (e : Entry U). seat_of e < v.seats)) s.later.1 s.accounts.below) in
      s.later.1 ∙ (ap (λ l. v.seen ++ l) (none_there v.seats rest below none) ∙ append-nil v.seen)
    where
      rest_of : List (Entry U)
      rest_of = s.later.0

      at : (n : ℕ) → (n ≡ 0 → entries_of seat_of n rest_of ≡ []) → (1 ≤ n → entries_of seat_of n rest_of ≡ []) → entries_of seat_of n rest_of ≡ []
      at zero zeroth other = zeroth refl
      at (suc n) zeroth other = other (omega arith)

      own_rest : entries_of seat_of v.number rest_of ≡ []
      own_rest = none_since seat_of v.number v.mine v.seen rest_of s.own (ap (entries_of seat_of v.number) (sym s.later.1) ∙ s.accounts.mine)

      other_rest : (n : ℕ) → 1 ≤ n → n < v.seats → entries_of seat_of n rest_of ≡ []
      other_rest n low high =
          let spare = s.accounts.spare n (omega (arith, first.from, low)) (omega (arith, first.to, high)) in
          none_since seat_of n [] v.seen rest_of (none_seen seat_of n old v.seen s.later spare) (ap (entries_of seat_of n) (sym s.later.1) ∙ spare)

      none : (n : ℕ) → n < v.seats → entries_of seat_of n rest_of ≡ []
      none n high = at n (λ z. subst (λ k. entries_of seat_of k rest_of ≡ []) (first.number ∙ sym z) own_rest) (λ low. other_rest n low high)

  -- its own entry, and none other
  pub record HasAdded (v w : View (Entry U)) (more : List (Entry U)) : Type 0 where
    pub first : IsFirst means jmax w
    pub seats : w.seats ≡ v.seats
    pub seen : w.seen ≡ v.seen ++ more

  -- its entries have its number
  own_more : (v : View (Entry U)) (old more : List (Entry U)) → v.number ≡ 0 → All (λ (e : Entry U). e.seat.0 ≡ v.number) more → All (λ (e : Entry U). e.seat.0 ≡ 0) more
  own_more v old more zeroth its k d lt = its k d lt ∙ zeroth

  pub added : (v w : View (Entry U)) (old new more : List (Entry U)) → IsFirst means jmax v → Passed seat_of (IsLawful means jmax) (IsPosted means) v w old new → new ≡ old ++ more →
      All (λ (e : Entry U). e.seat.0 ≡ v.number) more → HasAdded v w more
  added v w old new more f p grown its =
      let is : old ≡ v.seen = saw_all v old f p.shows in
      let seen : w.seen ≡ v.seen ++ more = ap (λ (x : View (Entry U)). x.seen) p.view ∙ (grown ∙ ap (λ l. l ++ more) is) in
      record {
        first = record {
          number = ap (λ (x : View (Entry U)). x.number) p.view ∙ f.number;
          from = ap (λ (x : View (Entry U)). x.spare_from) p.view ∙ f.from;
          to = ap (λ (x : View (Entry U)). x.spare_to) p.view ∙ (f.to ∙ sym (ap (λ (x : View (Entry U)). x.seats) p.view));
          ended = ap (λ (x : View (Entry U)). x.ended) p.view ∙ f.ended;
          own = subst (All (λ (e : Entry U). e.seat.0 ≡ 0)) (sym seen) (All-append (λ (e : Entry U). e.seat.0 ≡ 0) v.seen more f.own (own_more v old more f.number its));
          mine = subst (λ l. entries_of seat_of w.number l ≡ w.mine) (sym (ap (λ (x : View (Entry U)). x.seen) p.view)) p.accounts.mine;
          lawful = subst (IsLawful means jmax) (sym (ap (λ (x : View (Entry U)). x.seen) p.view)) p.legal;
        };
        seats = ap (λ (x : View (Entry U)). x.seats) p.view;
        seen = seen;
      }

  -- an event that needs one place is answered by an entry, which is a right one, or it is stopped
  abbrev pub Does : View (Entry U) → View (Entry U) → Event U → Result Reply Stop → Type 0
  Does v w e (Ok r) = HasAdded v w (record { seat = seat v.number; event = e; reply = r } ∷ []) × Answers jmax (plain_history means v.seen) (state_of means v.seen) v.number (plain_event means e) r
  Does v w e (Err st) = HasAdded v w [] × IsCause means jmax w.seen st

  pub one_place : (v w : View (Entry U)) (e : Event U) (answer : Result Reply Stop) → IsFirst means jmax v → places (state_of means v.seen) v.number (plain_event means e) ≡ 1 →
      TurnOf means jmax v w (λ old new. Performs means jmax old new (seat v.number) e answer) → Does v w e answer
  one_place v w e (Ok r) f needs t =
      let is = saw_all v t.old f t.passed.shows in (
        added v w t.old t.new (record { seat = seat v.number; event = e; reply = r } ∷ []) f t.passed t.did.grown (All-cons (λ (x : Entry U). x.seat.0 ≡ v.number) (record { seat = seat v.number; event = e; reply = r }) [] refl (All-nil (λ (x : Entry U). x.seat.0 ≡ v.number))),
        subst (λ l. Answers jmax (plain_history means l) (state_of means l) v.number (plain_event means e) r) is t.did.answered,
      )
  one_place v w e (Err stop.NoMemory) f needs t = (added v w t.old t.new [] f t.passed (t.did ∙ sym (append-nil t.old)) (All-nil (λ (x : Entry U). x.seat.0 ≡ v.number)), tt)
  one_place v w e (Err (stop.JournalFull len)) f needs t =
      let is = saw_all v t.old f t.passed.shows in
      let lawful = t.passed.shows.legal in (
        added v w t.old t.new [] f t.passed (t.did.0 ∙ sym (append-nil t.old)) (All-nil (λ (x : Entry U). x.seat.0 ≡ v.number)),
        subst (λ h. IsCause means jmax h (stop.JournalFull len)) (sym (ap (λ (x : View (Entry U)). x.seen) t.passed.view ∙ t.did.0))
            (t.did.1.length, one_lacks jmax (plain_history means t.old) v.number (plain_event means e) lawful.legal lawful.places (full_at t.old is t.did.1.full)),
      )
    where
      full_at : (old : List (Entry U)) → old ≡ v.seen → is_full jmax (state_of means old) v.number (plain_event means e) ≡ true → nat_lt jmax ((state_of means old).entries + kept (state_of means old) + 1) ≡ true
      full_at old is full = subst (λ n. nat_lt jmax ((state_of means old).entries + kept (state_of means old) + n) ≡ true) (ap (λ l. places (state_of means l) v.number (plain_event means e)) is ∙ needs) full
