-- What the first seat's calls make of what was done.
use Rattle.std.proofs.Common.{◌≡◌, ℕ, ◌+◌, Bool, true, false, List, [], ◌∷◌, ◌++◌, length, map, append-nil, refl, sym, ap, subst, ◌∙◌, arith, Option, Some, None, Result, Ok, Err}
use Rattle.std.specs.Prelude.{◌||◌, IfErr, OnOk, count_by, nat_le, nat_lt, not, unwrap_or}
use Rattle.std.proofs.lemmas.List.{map-append}
use Rattle.std.proofs.lemmas.List.Elements.{All-append, All-cons, All-nil}
use Rattle.orc_ids.specs.declared.ids.DylibId.{DylibId}
use Rattle.orc_ids.specs.declared.ids.NameId.{NameId}
use Rattle.orc_ids.specs.declared.ids.SeatNo.{SeatNo}
use Rattle.orc_ids.specs.declared.ids.TrackId.{TrackId}
use Rattle.orc_ids.specs.declared.flags.SymFlags.{SymFlags}
use Rattle.orc_ids.specs.declared.limits.TheConstants.{INSTANCE_LIMIT, UNIT_LIMIT}
use Rattle.orc_ids.specs.declared.lookup.Stop.{Stop}
use Rattle.session_model.specs.Answer.{Answers, answer_define, answer_dylib, answer_tracker, answer_unit, clash}
use Rattle.session_model.specs.Change.{kept_names, verdict, verdicts}
use Rattle.session_model.specs.History.{IsLegal, places}
use Rattle.session_model.specs.Lists.{first_some, only_if, or_else}
use Rattle.session_model.specs.Meaning.{Meaning}
use Rattle.session_model.specs.Plain.{Plain, empty, has_dylib, is_tracker_of}
use Rattle.session_model.specs.State.{after, plain_entry, plain_event, plain_history, state}
use Rattle.session_model.specs.declared.entry.Entry.{Entry}
use Rattle.session_model.specs.declared.entry.Event.{Event}
use Rattle.session_model.specs.declared.entry.Event.TheVariants as event
use Rattle.session_model.specs.declared.entry.Reply.{Reply}
use Rattle.session_model.specs.declared.entry.Reply.TheVariants as reply
use Rattle.session_model.specs.declared.rows.Verdict.{Verdict}
use Rattle.session_model.specs.declared.rows.Verdict.TheVariants.{Clashes}
use Rattle.session_steps.specs.Performs.{Performs, PerformsWith, state_of}
use Rattle.turn_lock.specs.declared.view.View.{View}
use Rattle.shared_session.specs.Does.{seat}
use Rattle.link_worker.proofs.Turning.{TurnOf}
use Rattle.memory_laws.specs.Objects.{first_dylib, first_tracker, is_done}
use Rattle.linked_program.specs.SetUps.{AreDone, HasDefined, IsAt, IsRefusedIn, IsStoppedIn, define_of, is_defined}
use Rattle.link_worker.proofs.FirstSeat.{HasAdded, one_place}

-- Where nothing was done, there is no entry.
pub none_done : (h : List (Entry Meaning)) → AreDone [] h → h ≡ []
none_done [] d = refl
none_done (e ∷ es) d = let one : length (e.event ∷ map (λ (x : Entry Meaning). x.event) es) ≡ 0 = ap length d.events in absurd (omega (arith, one))

-- one more event was done
pub one_more : (evs : List (Event Meaning)) (h : List (Entry Meaning)) (x : Entry Meaning) → AreDone evs h → is_done x.reply ≡ true → AreDone (evs ++ x.event ∷ []) (h ++ x ∷ [])
one_more evs h x d is = record {
  events = map-append (λ (e : Entry Meaning). e.event) h (x ∷ []) ∙ ap (λ l. l ++ x.event ∷ []) d.events;
  done = All-append (λ (e : Entry Meaning). is_done e.reply ≡ true) h (x ∷ []) d.done (All-cons (λ (e : Entry Meaning). is_done e.reply ≡ true) x [] is (All-nil (λ (e : Entry Meaning). is_done e.reply ≡ true)));
}

-- the first dylib is made
pub first_made : (main : NameId) → is_done (answer_dylib (state []) main) ≡ true
first_made main = refl

-- after it, a tracker of it
abbrev tracker_after : SeatNo → Event Meaning → Reply → Bool
tracker_after s e r = is_done (answer_tracker (after empty (record { seat = s; event = e; reply = r })) first_dylib)

pub tracker_made : (jmax : ℕ) (main : NameId) (h : List (Entry Meaning)) → IsLegal jmax h → AreDone (event.Dylib main ∷ []) h → is_done (answer_tracker (state h) first_dylib) ≡ true
tracker_made jmax main [] legal d = let none : 0 ≡ 1 = ap length d.events in absurd (omega (arith, none))
tracker_made jmax main (e ∷ f ∷ es) legal d = let many : length (e.event ∷ f.event ∷ map (λ (x : Entry Meaning). x.event) es) ≡ 1 = ap length d.events in absurd (omega (arith, many))
tracker_made jmax main (e ∷ []) legal d = made e.event e.reply (head_is d.events) legal.0
  where
    head_of : List (Event Meaning) → Event Meaning
    head_of [] = e.event
    head_of (x ∷ xs) = x

    head_is : (e.event ∷ []) ≡ (event.Dylib main ∷ []) → e.event ≡ event.Dylib main
    head_is is = ap head_of is

    made : (v : Event Meaning) (r : Reply) → v ≡ event.Dylib main → Answers jmax [] (state []) e.seat.0 v r → tracker_after e.seat v r ≡ true
    made v r is answered =
        let reply_is : r ≡ answer_dylib (state []) main = subst (λ x. Answers jmax [] (state []) e.seat.0 x r) is answered in
        subst (λ x. tracker_after e.seat x r ≡ true) (sym is) (subst (λ y. tracker_after e.seat (event.Dylib main) y ≡ true) (sym reply_is) refl)

-- What a definition is answered is done where the unit is defined.

abbrev Alike : Reply → Type 0
Alike r = is_done r ≡ is_defined r

abbrev AlikeIn : Option Reply → Type 0
AlikeIn (Some r) = Alike r
AlikeIn None = Unit {0}

else_alike : (a b : Option Reply) → AlikeIn a → AlikeIn b → AlikeIn (or_else a b)
else_alike (Some r) b x y = x
else_alike None b x y = y

only_alike : (b : Bool) (r : Reply) → Alike r → AlikeIn (only_if b r)
only_alike true r x = x
only_alike false r x = tt

first_alike : (a : Option Reply) (r : Reply) → AlikeIn a → Alike r → Alike (unwrap_or a r)
first_alike (Some s) r x y = x
first_alike None r x y = y

some_alike : {X : Type 0} (f : X → Option Reply) (xs : List X) → ((x : X) → AlikeIn (f x)) → AlikeIn (first_some f xs)
some_alike f [] each = tt
some_alike f (x ∷ xs) each = else_alike (f x) (first_some f xs) (each x) (some_alike f xs each)

clash_alike : (name : NameId) (v : Verdict) → AlikeIn (clash name v)
clash_alike name (Clashes i) = refl
clash_alike name _ = tt

unit_alike : (m : Plain) (d : ℕ) (u : Meaning) → Alike (answer_unit m d u)
unit_alike m d u =
    let clashes = first_some (λ (offer : NameId × SymFlags). clash offer.0 (verdict m.rows d offer)) u.offers in
    let made = reply.Defined (record { 0 = length m.units }) (record { 0 = length m.rows }) (count_by (λ (b : Bool). b) (kept_names (verdicts m.rows d u.offers))) in
    let many = nat_le UNIT_LIMIT (length m.units) || nat_lt INSTANCE_LIMIT (length m.rows + length u.offers) in
    first_alike (only_if many reply.TooMany) (unwrap_or clashes made) (only_alike many reply.TooMany refl)
    (first_alike clashes made (some_alike (λ (offer : NameId × SymFlags). clash offer.0 (verdict m.rows d offer)) u.offers (λ offer. clash_alike offer.0 (verdict m.rows d offer))) refl)

pub define_alike : (m : Plain) (d : DylibId) (t : TrackId) (u : Meaning) → is_done (answer_define m d t u) ≡ is_defined (answer_define m d t u)
define_alike m d t u =
    let gone = not (has_dylib m d.0) in
    let other = not (is_tracker_of m d.0 t.0) in
    first_alike (or_else (only_if gone (reply.NoDylib d)) None) (unwrap_or (only_if other (reply.TrackerGone t)) (answer_unit m d.0 u))
    (else_alike (only_if gone (reply.NoDylib d)) None (only_alike gone (reply.NoDylib d) refl) tt)
    (first_alike (only_if other (reply.TrackerGone t)) (answer_unit m d.0 u) (only_alike other (reply.TrackerGone t) refl) (unit_alike m d.0 u))

module _ {U : Type 0} (means : U → Meaning) (jmax : ℕ) where
  -- a call that was answered, or stopped
  abbrev pub Performed : View (Entry U) → View (Entry U) → Event U → Result Reply Stop → Type 0
  Performed v w e answer = TurnOf means jmax v w (λ old new. Performs means jmax old new (seat v.number) e answer)

  abbrev entry_of : View (Entry U) → Event U → Reply → Entry U
  entry_of v e r = record { seat = seat v.number; event = e; reply = r }

  grown : (v w : View (Entry U)) (x : Entry U) → HasAdded means jmax v w (x ∷ []) → plain_history means w.seen ≡ plain_history means v.seen ++ plain_entry means x ∷ []
  grown v w x a = ap (plain_history means) a.seen ∙ map-append (plain_entry means) v.seen (x ∷ [])

  -- an event was done
  pub event_done : (v w : View (Entry U)) (evs : List (Event Meaning)) (x : Entry U) → IsAt means jmax evs v → HasAdded means jmax v w (x ∷ []) → is_done x.reply ≡ true → IsAt means jmax (evs ++ plain_event means x.event ∷ []) w
  event_done v w evs x at a is = (a.first, subst (AreDone (evs ++ plain_event means x.event ∷ [])) (sym (grown v w x a)) (one_more evs (plain_history means v.seen) (plain_entry means x) at.1 is))

  -- or refused
  pub event_refused : (v w : View (Entry U)) (evs : List (Event Meaning)) (x : Entry U) → IsAt means jmax evs v → HasAdded means jmax v w (x ∷ []) → is_done x.reply ≡ false → IsRefusedIn means jmax evs (plain_event means x.event) w
  event_refused v w evs x at a is = (a.first, record { before = plain_history means v.seen; last = plain_entry means x; are = grown v w x a; first = at.1; event_is = refl; refused = is })

  -- or stopped
  pub event_stopped : (v w : View (Entry U)) (evs : List (Event Meaning)) (e : Event U) (st : Stop) → IsAt means jmax evs v → places (state_of means v.seen) v.number (plain_event means e) ≡ 1 → Performed v w e (Err st) → IsStoppedIn means jmax evs w st
  event_stopped v w evs e st at needs t =
      let p = one_place means jmax v w e (Err st) at.0 needs t in
      ((p.0.first, subst (λ l. AreDone evs (plain_history means l)) (sym (p.0.seen ∙ append-nil v.seen)) at.1), p.1)

  pub dylib_made : (v w : View (Entry U)) (main : NameId) (r : Reply) → IsAt means jmax [] v → Performed v w (event.Dylib main) (Ok r) → IsAt means jmax (event.Dylib main ∷ []) w
  dylib_made v w main r at t =
      let p = one_place means jmax v w (event.Dylib main) (Ok r) at.0 refl t in
      let reply_is : r ≡ answer_dylib (state []) main = subst (λ l. r ≡ answer_dylib (state l) main) (none_done (plain_history means v.seen) at.1) p.1 in
      event_done v w [] (entry_of v (event.Dylib main) r) at p.0 (ap is_done reply_is)

  pub tracker_there : (v w : View (Entry U)) (main : NameId) (r : Reply) → IsAt means jmax (event.Dylib main ∷ []) v → Performed v w (event.Tracker first_dylib) (Ok r) → IsAt means jmax (event.Dylib main ∷ event.Tracker first_dylib ∷ []) w
  tracker_there v w main r at t =
      let p = one_place means jmax v w (event.Tracker first_dylib) (Ok r) at.0 refl t in
      event_done v w (event.Dylib main ∷ []) (entry_of v (event.Tracker first_dylib) r) at p.0 (ap is_done p.1 ∙ tracker_made jmax main (plain_history means v.seen) at.0.lawful.legal at.1)

  pub dylib_on : (v w : View (Entry U)) (main : NameId) (answer : Result Reply Stop) → IsAt means jmax [] v → Performed v w (event.Dylib main) answer → OnOk answer (IsAt means jmax (event.Dylib main ∷ []) w)
  dylib_on v w main (Ok r) at t = dylib_made v w main r at t
  dylib_on v w main (Err st) at t = tt

  pub tracker_on : (v w : View (Entry U)) (main : NameId) (answer : Result Reply Stop) → IsAt means jmax (event.Dylib main ∷ []) v → Performed v w (event.Tracker first_dylib) answer → OnOk answer (IsAt means jmax (event.Dylib main ∷ event.Tracker first_dylib ∷ []) w)
  tracker_on v w main (Ok r) at t = tracker_there v w main r at t
  tracker_on v w main (Err st) at t = tt

  pub stopped_on : (v w : View (Entry U)) (evs : List (Event Meaning)) (e : Event U) (answer : Result Reply Stop) → IsAt means jmax evs v → places (state_of means v.seen) v.number (plain_event means e) ≡ 1 → Performed v w e answer → IfErr answer (IsStoppedIn means jmax evs w)
  stopped_on v w evs e (Ok r) at needs t = tt
  stopped_on v w evs e (Err st) at needs t = event_stopped v w evs e st at needs t

  -- a definition of a unit, of which the entry has a share
  abbrev pub DefineOf : View (Entry U) → View (Entry U) → U → Result Reply Stop → Type 0
  DefineOf v w unit answer = (share : U) × (means share ≡ means unit) × Performed v w (event.Define first_dylib first_tracker share) answer

  pub defined_as : (v w : View (Entry U)) (evs : List (Event Meaning)) (unit : U) (r : Reply) → IsAt means jmax evs v → DefineOf v w unit (Ok r) → HasDefined means jmax evs (means unit) w (is_defined r)
  defined_as v w evs unit r at d = split (is_defined r) refl
    where
      x : Entry U
      x = entry_of v (event.Define first_dylib first_tracker d.0) r

      p : HasAdded means jmax v w (x ∷ []) × Answers jmax (plain_history means v.seen) (state_of means v.seen) v.number (event.Define first_dylib first_tracker (means d.0)) r
      p = one_place means jmax v w (event.Define first_dylib first_tracker d.0) (Ok r) at.0 refl d.2

      same : define_of (means d.0) ≡ define_of (means unit)
      same = ap define_of d.1

      alike : is_done r ≡ is_defined r
      alike = subst (λ y. is_done y ≡ is_defined y) (sym p.1.1) (define_alike (state_of means v.seen) first_dylib first_tracker (means d.0))

      split : (b : Bool) → is_defined r ≡ b → HasDefined means jmax evs (means unit) w b
      split true is = subst (λ y. IsAt means jmax (evs ++ y ∷ []) w) same (event_done v w evs x at p.0 (alike ∙ is))
      split false is = subst (λ y. IsRefusedIn means jmax evs y w) same (event_refused v w evs x at p.0 (alike ∙ is))

  pub define_stopped : (v w : View (Entry U)) (evs : List (Event Meaning)) (unit : U) (st : Stop) → IsAt means jmax evs v → DefineOf v w unit (Err st) → IsStoppedIn means jmax evs w st
  define_stopped v w evs unit st at d = event_stopped v w evs (event.Define first_dylib first_tracker d.0) st at refl d.2

  -- the share stands in the history
  pub define_of_turn : (v w : View (Entry U)) (unit : U) (answer : Result Reply Stop) (Back : Type 0) → TurnOf means jmax v w (λ old new. PerformsWith means jmax old new (seat v.number) (λ share. event.Define first_dylib first_tracker share) unit answer × Back) → DefineOf v w unit answer
  define_of_turn v w unit answer Back t = (t.did.0.0, t.did.0.1, record { old = t.old; new = t.new; passed = t.passed; did = t.did.0.2 })
