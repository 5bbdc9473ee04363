-- Who was told in the session of a script: just those whose queries ended.
use Rattle.std.proofs.Common.{arith, ◌≡◌, ℕ, zero, suc, ◌+◌, ◌<◌, ◌≤◌, ◌⊎◌, inl, inr, false, List, [], ◌∷◌, All, length, map, slice_get, take, Option, Some, refl, subst, ap, ◌∙◌}
use Rattle.std.proofs.lemmas.Bool.{both_ways}
use Rattle.std.proofs.lemmas.Option.{none-some}
use Rattle.list_laws.proofs.Each.{all_at, all_from}
use Rattle.list_laws.proofs.Lists.{some_below}
use Rattle.orc_ids.specs.declared.lookup.Outcome.{Outcome}
use Rattle.orc_ids.specs.declared.lookup.Stop.{Stop}
use Rattle.session_model.specs.Calls.{numbered_calls}
use Rattle.session_model.specs.Meaning.{Meaning}
use Rattle.session_model.specs.declared.entry.Entry.{Entry}
use Rattle.session_model.specs.declared.entry.Event.{Event}
use Rattle.session_laws.proofs.Declared.{appended_cases, mapped_length, mapped_parts, mapped_some}
use Rattle.notifiers.specs.declared.notice.Notice.{Notice}
use Rattle.history_laws.specs.Laws.{may_settle}
use Rattle.link_worker.specs.Does.{ToldAt}
use Rattle.history_laws.specs.NoticeLaws.{IsAmong, TellsNote}
use Rattle.history_laws.proofs.Told.{ended_are_told, told_have_ended}
use Rattle.script_model.specs.Plans.{event_of, line_of, script_of}
use Rattle.script_model.specs.declared.calls.Plan.{Plan}
use Rattle.script_model.specs.declared.calls.SetUpCall.{SetUpCall}
use Rattle.script_model.specs.declared.calls.SetUpCall.TheVariants as set_up
use Rattle.script_model.specs.Scripts.{AreCalled, IsScriptRun, Went, Whole, InSetUp}
use Rattle.script_model.specs.declared.line_end.LineEnd.{LineEnd}
use Rattle.script_session.specs.Leaving.{AreNotified}
use Rattle.script_session.specs.declared.session.Notified.{Notified}
use Rattle.session_command.proofs.Placing.{AllWereTold, WereTold}

-- Lists

taken_some : {X : Type 0} (n : ℕ) (xs : List X) (k : ℕ) (x : X) → slice_get (take n xs) k ≡ Some x → slice_get xs k ≡ Some x
taken_some zero xs k x there = absurd (none-some x there)
taken_some (suc n) [] k x there = absurd (none-some x there)
taken_some (suc n) (y ∷ ys) zero x there = there
taken_some (suc n) (y ∷ ys) (suc k) x there = taken_some n ys k x there

-- No call of a set-up settles a query

module _ {U : Type 0} (means : U → Meaning) where
  quiet_call : (call : SetUpCall U) → may_settle (event_of means call) ≡ false
  quiet_call (set_up.Dylib name) = refl
  quiet_call (set_up.Order d order) = refl
  quiet_call (set_up.Tracker d) = refl
  quiet_call (set_up.Define d t unit) = refl
  quiet_call (set_up.Attach d t unit) = refl

  quiet_setup : (calls : List (SetUpCall U)) (events : List (Event Meaning)) (setup : List (Entry Meaning)) → ((k : ℕ) (e : Event Meaning) → slice_get events k ≡ Some e → slice_get (map (event_of means) calls) k ≡ Some e) →
      AreCalled events setup → (k : ℕ) (e : Entry Meaning) → slice_get setup k ≡ Some e → may_settle e.event ≡ false
  quiet_setup calls events setup among are k e there =
      let at : slice_get events k ≡ Some e.event = subst (λ l. slice_get l k ≡ Some e.event) are (mapped_some (λ (x : Entry Meaning). x.event) setup k e there) in
      let call = mapped_parts (event_of means) calls k e.event (among k e.event at) in
      ap may_settle call.2 ∙ quiet_call call.0

  went_quiet : {N : Type 0} (jmax : ℕ) (plan : Plan U N) (ends : List (List LineEnd)) (h setup later : List (Entry Meaning)) (stopped : Option Stop) → Went jmax (script_of means plan) ends h setup later stopped →
      (k : ℕ) (e : Entry Meaning) → slice_get setup k ≡ Some e → may_settle e.event ≡ false
  went_quiet jmax plan ends h setup later _ (Whole are ran) k e there = quiet_setup plan.set_up.items (map (event_of means) plan.set_up.items) setup (λ j x t. t) are k e there
  went_quiet jmax plan ends h setup later _ (InSetUp n st few are none cause skipped) k e there = quiet_setup plan.set_up.items (take n (map (event_of means) plan.set_up.items)) setup (taken_some n (map (event_of means) plan.set_up.items)) are k e there

module _ {U N : Type 0} (means : U → Meaning) (heard : N → Option Outcome) (number : N → ℕ) (jmax workers : ℕ) (plan : Plan U N) (stopped : Option Stop) (ends : List (List LineEnd)) (h : List (Entry Meaning))
    (run : IsScriptRun jmax workers (script_of means plan) stopped ends h) (notified : Notified N) (are : AreNotified heard number (length plan.clients.items + workers) h notified) where
  abbrev pub Told : List (List (Notice N))
  Told = notified.told.items

  -- each was told the end of its query
  pub were_told : All (WereTold heard h) Told
  were_told = all_from (WereTold heard h) Told (λ k fired there. let t = are.told k fired there in (told_have_ended h (1 + k) fired t.0, t.1))

  -- an entry after the set-up is by one of the seats whose calls told
  by_seat : (note : ℕ) (outcome : Outcome) (t : TellsNote N h note outcome) → (0 < t.entry.seat.0) × (t.entry.seat.0 ≤ length (script_of means plan).clients + workers) → (s : ℕ) → t.entry.seat.0 ≡ s → (i : ℕ) × (fired : List (Notice N)) × (slice_get Told i ≡ Some fired) × IsAmong note outcome fired
  by_seat note outcome t seat zero is = absurd (omega (arith, seat.0, is))
  by_seat note outcome t seat (suc k) is =
      let clients : length (script_of means plan).clients ≡ length plan.clients.items = mapped_length (λ lines. map (line_of means) lines.items) plan.clients.items in
      let fired = some_below Told k (omega (arith, are.count, seat.1, is, clients)) in
      let number : 1 + k ≡ t.entry.seat.0 = omega (arith, is) in
      (k, fired.0, fired.1, t.tells fired.0 (subst (λ s. ToldAt h (numbered_calls s 1 h) fired.0) number (are.told k fired.0 fired.1).0))

  -- all ends of notes' queries were told
  pub all_were_told : AllWereTold heard h Told
  all_were_told note outcome e = by (appended_cases run.setup run.later t.number t.entry (subst (λ l. slice_get l t.number ≡ Some t.entry) run.parts t.there))
    where
      t : TellsNote N h note outcome
      t = ended_are_told jmax h note outcome run.legal e

      by : (slice_get run.setup t.number ≡ Some t.entry) ⊎ ((k : ℕ) × (t.number ≡ length run.setup + k) × (slice_get run.later k ≡ Some t.entry)) → (i : ℕ) × (fired : List (Notice N)) × (slice_get Told i ≡ Some fired) × IsAmong note outcome fired
      by (inl there) = absurd (both_ways (may_settle t.entry.event) (went_quiet means jmax plan ends h run.setup run.later stopped run.went t.number t.entry there) t.may)
      by (inr later) = by_seat note outcome t (all_at (λ (x : Entry Meaning). (0 < x.seat.0) × (x.seat.0 ≤ length (script_of means plan).clients + workers)) run.later later.0 t.entry run.later_seats later.2) t.entry.seat.0 refl
