-- Where each seat has let go of its units, none is held.
use Rattle.std.proofs.Common.{◌≡◌, ℕ, zero, suc, ◌+◌, ◌*◌, ◌<◌, ◌≤◌, ◌⊎◌, inl, inr, Bool, true, false, cond, List, [], ◌∷◌, ◌++◌, length, append_assoc, append-nil, refl, sym, ap, subst, ◌∙◌, arith, All, Some, None, slice_get}
use Rattle.std.specs.Prelude.{is_some, Option}
use Rattle.std.proofs.lemmas.Bool.{cases_lt}
use Rattle.std.proofs.lemmas.List.{map-append}
use Rattle.std.proofs.lemmas.List.Elements.{All-cons, All-nil}
use Rattle.std.proofs.lemmas.List.Sums.{sum_by-le}
use Rattle.std.proofs.lemmas.Option.{none-some}
use Rattle.list_laws.proofs.Each.{all_at, all_from}
use Rattle.session_model.specs.Change.{change_of, changed, settled}
use Rattle.session_model.specs.History.{IsLegal}
use Rattle.session_model.specs.Meaning.{Meaning}
use Rattle.session_model.specs.Plain.{Plain, UnitRow, empty, kept}
use Rattle.session_model.specs.State.{plain_entry, plain_history, state}
use Rattle.session_model.specs.declared.entry.Entry.{Entry}
use Rattle.session_model.specs.declared.entry.Event.{Event}
use Rattle.session_model.specs.declared.entry.Event.TheVariants as event
use Rattle.session_laws.proofs.Declared.{state_from_push}
use Rattle.history_laws.proofs.Giving.{NoTake, change_seats_none, none_again, none_settled}
use Rattle.materialization.specs.Rest.{HoldsNone}
use Rattle.materialization.specs.declared.stage.Stage.TheVariants as stage
use Rattle.materialization.proofs.Leaving.{others_leave_has}
use Rattle.materialization.proofs.Seats.{none_kept}
use Rattle.turn_lock.specs.declared.view.View.{View}
use Rattle.turn_lock.specs.Lists.{entries_of}
use Rattle.turn_lock.proofs.Entries.{none_since}
use Rattle.shared_session.specs.Carried.{all_others}
use Rattle.shared_session.specs.Home.{seat_of}
use Rattle.link_worker.specs.Laws.{is_take}
use Rattle.link_worker.specs.Works.{IsFree}
use Rattle.link_worker.proofs.Freeing.{untaken}
use Rattle.link_worker.proofs.Telling.{is_placing}
use Rattle.crew.specs.Crew.{IsKept}

-- What begins no work

abbrev pub is_working : Event Meaning → Bool
is_working event.Take = true
is_working (event.Place u shape) = true
is_working e = false

not_taking : (e : Event Meaning) → is_working e ≡ false → is_take e ≡ false
not_taking event.Take w = w
not_taking _ w = refl

pub not_placing : (e : Event Meaning) → is_working e ≡ false → is_placing e ≡ false
not_placing (event.Place u shape) w = w
not_placing _ w = refl

-- entries that neither take a job nor place a unit
abbrev pub AreStill : List (Entry Meaning) → Type 0
AreStill es = (k : ℕ) (e : Entry Meaning) → slice_get es k ≡ Some e → is_working e.event ≡ false

-- such an entry of a seat gives it no unit
still_gives_none : (s : ℕ) (h : List (Entry Meaning)) (e : Entry Meaning) → e.seat.0 ≡ s → is_working e.event ≡ false → HoldsNone (state h) s → HoldsNone (state (h ++ e ∷ [])) s
still_gives_none s h e its still free =
    let m = state h in
    let c = change_of m e.seat.0 e.event e.reply in
    let n = changed c m in
    subst (λ (x : Plain). HoldsNone x s) (sym (state_from_push empty h e))
    (none_kept m (settled n) s (none_again s m.units n.units (settled n).units (change_seats_none m s c (subst (λ k. NoTake k c) its (untaken m e.seat.0 e.event e.reply (not_taking e.event still)))) (none_settled s n)) free)

pub still_free : (s : ℕ) (h more : List (Entry Meaning)) → All (λ (e : Entry Meaning). e.seat.0 ≡ s) more → AreStill more → HoldsNone (state h) s → HoldsNone (state (h ++ more)) s
still_free s h [] its still free = subst (λ l. HoldsNone (state l) s) (sym (append-nil h)) free
still_free s h (e ∷ es) its still free = subst (λ l. HoldsNone (state l) s) (append_assoc h (e ∷ []) es)
    (still_free s (h ++ e ∷ []) es (all_from (λ (x : Entry Meaning). x.seat.0 ≡ s) es (λ k x there. all_at (λ (y : Entry Meaning). y.seat.0 ≡ s) (e ∷ es) (suc k) x its there)) (λ k x there. still (suc k) x there)
    (still_gives_none s h e (all_at (λ (y : Entry Meaning). y.seat.0 ≡ s) (e ∷ es) 0 e its refl) (still 0 e refl) free))

-- nothing was held before all entries
pub none_at_first : (s : ℕ) → HoldsNone (state []) s
none_at_first s u x there its = none-some x there

-- All seats together

is_none : {X : Type 0} (o : Option X) → ((x : X) → o ≡ Some x → ⊥) → is_some o ≡ false
is_none None none = refl
is_none (Some x) none = absurd (none x refl)

pub none_is_held : (m : Plain) → ((s : ℕ) → HoldsNone m s) → kept m ≡ 0
none_is_held m free = let few : kept m ≤ length m.units * 0 = sum_by-le (λ (x : UnitRow). cond (is_some x.seat) 1 0) 0 m.units (all_from (λ (x : UnitRow). cond (is_some x.seat) 1 0 ≤ 0) m.units each) in omega (arith, few)
  where
    each : (u : ℕ) (x : UnitRow) → slice_get m.units u ≡ Some x → cond (is_some x.seat) 1 0 ≤ 0
    each u x there = subst (λ b. cond b 1 0 ≤ 0) (sym (is_none x.seat (λ s its. free s u x there its))) (omega arith)

module _ (jmax seats : ℕ) (h : List (Entry Meaning)) (legal : IsLegal jmax h) (below : All (λ (e : Entry Meaning). e.seat.0 < seats) h) where
  -- a seat beyond them all has no entry
  none_beyond : (s : ℕ) → seats ≤ s → HoldsNone (state h) s
  none_beyond s far = others_leave_has jmax [] h legal s 0
      (λ k e there its. let less = all_at (λ (x : Entry Meaning). x.seat.0 < seats) h k e below there in omega (arith, its, less, far)) stage.Over (none_at_first s)

  pub all_let_go : ((s : ℕ) → s < seats → HoldsNone (state h) s) → kept (state h) ≡ 0
  all_let_go each = none_is_held (state h) (λ s. by s (cases_lt s seats))
    where
      by : (s : ℕ) → (s < seats) ⊎ (seats ≤ s) → HoldsNone (state h) s
      by s (inl few) = each s few
      by s (inr far) = none_beyond s far

module _ {U : Type 0} (means : U → Meaning) (jmax : ℕ) where
  -- a seat that had let go of its units when it made its last entry
  pub let_go : (log : List (Entry U)) (n : ℕ) (w : View (Entry U)) → IsLegal jmax (plain_history means log) → w.number ≡ n → IsKept seat_of log w → IsFree means w → HoldsNone (state (plain_history means log)) n
  let_go log n w legal number k free =
      let rest = k.later.0 in
      let none = none_since seat_of w.number (entries_of seat_of w.number w.seen) w.seen rest refl (ap (entries_of seat_of w.number) (sym k.later.1) ∙ k.own) in
      let is : plain_history means log ≡ plain_history means w.seen ++ plain_history means rest = ap (plain_history means) k.later.1 ∙ map-append (plain_entry means) w.seen rest in
      subst (λ s. HoldsNone (state (plain_history means log)) s) number (subst (λ l. HoldsNone (state l) w.number) (sym is)
      (others_leave_has jmax (plain_history means w.seen) (plain_history means rest) (subst (IsLegal jmax) is legal) w.number 0 (all_others means w.number rest none) stage.Over free))
