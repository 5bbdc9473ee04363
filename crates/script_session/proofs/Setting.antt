-- What the first seat's calls make of a set-up.
use Rattle.std.proofs.Common.{◌≡◌, ℕ, ◌<◌, true, false, List, [], ◌∷◌, ◌++◌, length, map, take, slice_get, append-nil, refl, sym, ap, subst, ◌∙◌, arith, All, Option, Some, None, Result, Ok, Err}
use Rattle.std.specs.Prelude.{OnOk, IfErr, IfSome}
use Rattle.std.proofs.lemmas.Bool.{lt-ltb}
use Rattle.std.proofs.Math.Seq.{take-append_seam}
use Rattle.std.proofs.lemmas.List.{length-append, length-map, map-append, take-map}
use Rattle.std.proofs.lemmas.List.Elements.{All-cons, All-nil}
use Rattle.orc_ids.specs.declared.ids.DylibId.{DylibId}
use Rattle.orc_ids.specs.declared.lookup.Stop.{Stop}
use Rattle.session_model.specs.History.{places}
use Rattle.session_model.specs.Meaning.{Meaning}
use Rattle.session_model.specs.Plain.{Plain, has_dylib}
use Rattle.session_model.specs.State.{plain_entry, plain_event, plain_history}
use Rattle.session_model.specs.declared.entry.Entry.{Entry}
use Rattle.session_model.specs.declared.entry.Event.{Event}
use Rattle.session_model.specs.declared.entry.Reply.{Reply}
use Rattle.session_steps.specs.Performs.{Performs, PerformsWith, state_of}
use Rattle.session_laws.proofs.Declared.{appended_at}
use Rattle.turn_lock.specs.declared.view.View.{View}
use Rattle.shared_session.specs.Does.{seat}
use Rattle.link_worker.proofs.Held.{is_working}
use Rattle.link_worker.proofs.Turning.{TurnOf}
use Rattle.link_worker.proofs.FirstSeat.{one_place}
use Rattle.script_model.specs.Dylibs.{dylib_names}
use Rattle.script_model.specs.Plans.{CanSetUp, CanSetUpAll, event_of}
use Rattle.script_model.specs.declared.calls.SetUpCall.{SetUpCall}
use Rattle.script_model.specs.declared.calls.SetUpCall.TheVariants as set_up
use Rattle.script_model.proofs.Made.{made_before}
use Rattle.script_model.specs.Scripts.{AreCalled}
use Rattle.script_session.specs.SetUps.{HasSetUp, IsAllowed, IsAt, IsStoppedIn}

module _ {U : Type 0} (means : U → Meaning) (jmax : ℕ) (v w : View (Entry U)) where
  abbrev pub Performed : Event U → Result Reply Stop → Type 0
  Performed e answer = TurnOf means jmax v w (λ old new. Performs means jmax old new (seat v.number) e answer)

  -- what a call makes of a set-up
  abbrev pub Called : Event Meaning → Result Reply Stop → Type 0
  Called e answer = (w.seats ≡ v.seats) × OnOk answer ((evs : List (Event Meaning)) → IsAt means jmax evs v → IsAt means jmax (evs ++ e ∷ []) w)
      × IfErr answer (λ st. (evs : List (Event Meaning)) → IsAt means jmax evs v → IsStoppedIn means jmax evs w st)

  called : (evs : List (Event Meaning)) (e : Event U) (r : Reply) → IsAt means jmax evs v → places (state_of means v.seen) v.number (plain_event means e) ≡ 1 → Performed e (Ok r) → IsAt means jmax (evs ++ plain_event means e ∷ []) w
  called evs e r at needs t =
      let p = one_place means jmax v w e (Ok r) at.0 needs t in
      let x : Entry U = record { seat = seat v.number; event = e; reply = r } in (
        p.0.first,
        subst (λ l. AreCalled (evs ++ plain_event means e ∷ []) (plain_history means l)) (sym p.0.seen)
            (ap (Rattle.std.proofs.Common.map (λ (y : Entry Meaning). y.event)) (map-append (plain_entry means) v.seen (x ∷ [])) ∙ (map-append (λ (y : Entry Meaning). y.event) (plain_history means v.seen) (plain_entry means x ∷ []) ∙ ap (λ l. l ++ plain_event means e ∷ []) at.1)),
      )

  stopped : (evs : List (Event Meaning)) (e : Event U) (st : Stop) → IsAt means jmax evs v → places (state_of means v.seen) v.number (plain_event means e) ≡ 1 → Performed e (Err st) → IsStoppedIn means jmax evs w st
  stopped evs e st at needs t =
      let p = one_place means jmax v w e (Err st) at.0 needs t in
      ((p.0.first, subst (λ l. AreCalled evs (plain_history means l)) (sym (p.0.seen ∙ append-nil v.seen)) at.1), p.1)

  pub one_called : (e : Event U) (answer : Result Reply Stop) → places (state_of means v.seen) v.number (plain_event means e) ≡ 1 → Performed e answer → Called (plain_event means e) answer
  one_called e (Ok r) needs t = (ap (λ (x : View (Entry U)). x.seats) t.passed.view, (λ evs at. called evs e r at needs t), tt)
  one_called e (Err st) needs t = (ap (λ (x : View (Entry U)). x.seats) t.passed.view, tt, (λ evs at. stopped evs e st at needs t))

  -- a call with a unit, of which the entry has a share
  pub unit_called : (event_of : U → Event U) (plain_of : Meaning → Event Meaning) (unit : U) (answer : Result Reply Stop) (Back : List (Entry U) → List (Entry U) → Type 0) → ((u : U) → plain_event means (event_of u) ≡ plain_of (means u)) → ((u : U) → places (state_of means v.seen) v.number (plain_event means (event_of u)) ≡ 1) →
      TurnOf means jmax v w (λ old new. PerformsWith means jmax old new (seat v.number) event_of unit answer × Back old new) → Called (plain_of (means unit)) answer
  unit_called event_of plain_of unit answer Back plain needs t =
      let share = t.did.0.0 in
      subst (λ e. Called e answer) (plain share ∙ ap plain_of t.did.0.1) (one_called (event_of share) answer (needs share) (record { old = t.old; new = t.new; passed = t.passed; did = t.did.0.2 }))

-- what a set-up may call

module _ {U : Type 0} (means : U → Meaning) where
  -- a source that was made is there
  has_source : (m : Plain) (made : ℕ) (source : Option DylibId) → length m.dylibs ≡ made → IfSome source (λ s. s.0 < made) → IfSome source (λ (d : DylibId). has_dylib m d.0 ≡ true)
  has_source m made None is can = tt
  has_source m made (Some d) is can = lt-ltb d.0 (length m.dylibs) (subst (λ n. d.0 < n) (sym is) can)

  allowed : (m : Plain) (made : ℕ) (call : SetUpCall U) → length m.dylibs ≡ made → CanSetUp means made call → IsAllowed means m call
  allowed m made (set_up.Dylib name) is can = tt
  allowed m made (set_up.Order d order) is can = can
  allowed m made (set_up.Tracker d) is can = tt
  allowed m made (set_up.Define d t unit) is can = has_source m made (means unit).source is can
  allowed m made (set_up.Attach d t unit) is can = has_source m made (means unit).source is can

  -- none of its calls places a unit
  still_call : (call : SetUpCall U) → is_working (event_of means call) ≡ false
  still_call (set_up.Dylib name) = refl
  still_call (set_up.Order d order) = refl
  still_call (set_up.Tracker d) = refl
  still_call (set_up.Define d t unit) = refl
  still_call (set_up.Attach d t unit) = refl

  pub still_calls : (calls : List (SetUpCall U)) → All (λ e. is_working e ≡ false) (map (event_of means) calls)
  still_calls [] = All-nil (λ e. is_working e ≡ false)
  still_calls (c ∷ cs) = All-cons (λ e. is_working e ≡ false) (event_of means c) (map (event_of means) cs) (still_call c) (still_calls cs)

-- calls that were made, one that is next, and those behind it
module _ {U : Type 0} (means : U → Meaning) (jmax : ℕ) (calls done rest : List (SetUpCall U)) (next : SetUpCall U) (parts : calls ≡ done ++ next ∷ rest) where
  front : take (length done) calls ≡ done
  front = ap (take (length done)) parts ∙ take-append_seam done (next ∷ rest)

  events_front : map (event_of means) done ≡ take (length done) (map (event_of means) calls)
  events_front = ap (map (event_of means)) (sym front) ∙ sym (take-map (event_of means) (length done) calls)

  next_there : slice_get calls (length done) ≡ Some next
  next_there = ap (λ l. slice_get l (length done)) parts ∙ (ap (slice_get (done ++ next ∷ rest)) (omega arith) ∙ appended_at done (next ∷ rest) 0)

  -- the next one may be called
  pub next_allowed : (v : View (Entry U)) → CanSetUpAll means calls → IsAt means jmax (map (event_of means) done) v → IsAllowed means (state_of means v.seen) next
  next_allowed v can at =
      let names = made_before jmax (plain_history means v.seen) at.0.lawful.legal (map (event_of means) calls) (length done) (at.1 ∙ events_front) can.differ can.few in
      allowed means (state_of means v.seen) (length (dylib_names (take (length done) (map (event_of means) calls)))) next names
      (subst (λ n. CanSetUp means n next) (ap (λ l. length (dylib_names l)) (sym (take-map (event_of means) (length done) calls))) (can.each (length done) next next_there))

  -- it was stopped
  pub stopped_next : (v : View (Entry U)) (st : Stop) → IsStoppedIn means jmax (map (event_of means) done) v st → HasSetUp means jmax (map (event_of means) calls) v (Some st)
  stopped_next v st s = (
    length done,
    omega (arith, length-map calls (event_of means), ap length parts, length-append done (next ∷ rest)),
    subst (λ l. IsStoppedIn means jmax l v st) events_front s,
  )

-- one more was called
pub called_more : {U : Type 0} (means : U → Meaning) (jmax : ℕ) (done : List (SetUpCall U)) (next : SetUpCall U) (v : View (Entry U)) → IsAt means jmax (map (event_of means) done ++ event_of means next ∷ []) v → IsAt means jmax (map (event_of means) (done ++ next ∷ [])) v
called_more means jmax done next v at = subst (λ l. IsAt means jmax l v) (sym (map-append (event_of means) done (next ∷ []))) at
