-- What the definitions of units come to, and with them the whole set-up.
use Rattle.std.proofs.Common.{◌≡◌, ℕ, zero, suc, ◌+◌, ◌<◌, Bool, true, false, List, [], ◌∷◌, ◌++◌, length, map, take, append_assoc, refl, sym, ap, subst, ◌∙◌, arith, All, Some, Result, Ok, Err}
use Rattle.std.specs.Prelude.{IfErr, IfOk, slice_get}
use Rattle.std.proofs.lemmas.List.{length-map, map-append, take-map}
use Rattle.std.proofs.lemmas.List.Elements.{All-head, All-tail}
use Rattle.orc_ids.specs.declared.ids.NameId.{NameId}
use Rattle.orc_ids.specs.declared.lookup.Stop.{Stop}
use Rattle.session_model.specs.Meaning.{Meaning}
use Rattle.session_model.specs.State.{plain_history}
use Rattle.session_model.specs.declared.entry.Entry.{Entry}
use Rattle.session_model.specs.declared.entry.Event.{Event}
use Rattle.session_model.specs.declared.entry.Event.TheVariants as event
use Rattle.turn_lock.specs.declared.view.View.{View}
use Rattle.memory_laws.specs.Objects.{setup_events}
use Rattle.run_laws.specs.Ended.{IsSetUpTo}
use Rattle.linked_program.specs.SetUps.{AreDone, HasDefined, HasSetUp, HaveDefined, IsAt, IsRefusedIn, IsStoppedIn, beginning, define_of}
use Rattle.linked_program.specs.declared.setting_up.SetUp.{SetUp}
use Rattle.linked_program.specs.declared.setting_up.SetUp.TheVariants.{Done, Refused, Stopped}

-- Lists

module _ {X : Type 0} where
  -- the element behind a list
  pub at_seam : (P : X → Type 0) (xs : List X) (y : X) (ys : List X) → All P (xs ++ y ∷ ys) → P y
  at_seam P [] y ys all = All-head P y ys all
  at_seam P (x ∷ xs) y ys all = at_seam P xs y ys (All-tail P x (xs ++ y ∷ ys) all)

  seam_there : (xs : List X) (y : X) (ys : List X) → slice_get (xs ++ y ∷ ys) (length xs) ≡ Some y
  seam_there [] y ys = refl
  seam_there (x ∷ xs) y ys = seam_there xs y ys

  take_seam : (xs ys : List X) → take (length xs) (xs ++ ys) ≡ xs
  take_seam [] ys = refl
  take_seam (x ∷ xs) ys = ap (λ l. x ∷ l) (take_seam xs ys)

  seam_within : (xs : List X) (y : X) (ys : List X) → length xs < length (xs ++ y ∷ ys)
  seam_within [] y ys = omega arith
  seam_within (x ∷ xs) y ys = let within = seam_within xs y ys in omega (arith, within)

  -- what an iterator gives next, it has then given
  pub given_more : (xs : List X) (y : X) (ys before all : List X) → before ≡ y ∷ ys → xs ++ before ≡ all → (xs ++ y ∷ []) ++ ys ≡ all
  given_more xs y ys before all is whole = append_assoc xs (y ∷ []) ys ∙ (ap (λ l. xs ++ l) (sym is) ∙ whole)

  pub none_left : (xs : List X) → length xs ≡ 0 → xs ≡ []
  none_left [] e = refl
  none_left (x ∷ xs) e = absurd (omega (arith, e))

  length_taken : (k : ℕ) (xs : List X) → k < length xs → length (take k xs) ≡ k
  length_taken zero xs lt = refl
  length_taken (suc k) [] lt = absurd (omega (arith, lt))
  length_taken (suc k) (x ∷ xs) lt = let rest = length_taken k xs (omega (arith, lt)) in omega (arith, rest)

module _ {U : Type 0} (means : U → Meaning) (jmax : ℕ) where
  -- what one definition makes of what was done, or its stop
  abbrev pub Made : View (Entry U) → View (Entry U) → U → Result Bool Stop → Type 0
  Made v w unit r = IfOk r (λ taken. (evs : List (Event Meaning)) → IsAt means jmax evs v → HasDefined means jmax evs (means unit) w taken)

  abbrev pub Halted : View (Entry U) → View (Entry U) → Result Bool Stop → Type 0
  Halted v w r = IfErr r (λ st. (evs : List (Event Meaning)) → IsAt means jmax evs v → IsStoppedIn means jmax evs w st)

  -- what the units of a list were defined as
  abbrev pub defines : List U → List (Event Meaning)
  defines done = map define_of (map means done)

  defines_more : (evs : List (Event Meaning)) (done : List U) (x : U) → (evs ++ defines done) ++ define_of (means x) ∷ [] ≡ evs ++ defines (done ++ x ∷ [])
  defines_more evs done x = append_assoc evs (defines done) (define_of (means x) ∷ []) ∙ ap (λ l. evs ++ l) (sym (ap (map define_of) (map-append means done (x ∷ [])) ∙ map-append define_of (map means done) (means x ∷ [])))

  means_seam : (units done rest : List U) (x : U) → units ≡ done ++ x ∷ rest → map means units ≡ map means done ++ means x ∷ map means rest
  means_seam units done rest x whole = ap (map means) whole ∙ map-append means done (x ∷ rest)

  -- one more unit was defined
  pub defined_more : (evs : List (Event Meaning)) (done : List U) (x : U) (w : View (Entry U)) → HasDefined means jmax (evs ++ defines done) (means x) w true → IsAt means jmax (evs ++ defines (done ++ x ∷ [])) w
  defined_more evs done x w at = subst (λ l. IsAt means jmax l w) (defines_more evs done x) at

  -- or refused
  pub refused_at : (evs : List (Event Meaning)) (units done rest : List U) (x : U) (k : ℕ) (w : View (Entry U)) → units ≡ done ++ x ∷ rest → k ≡ length done →
      HasDefined means jmax (evs ++ defines done) (means x) w false → HaveDefined means jmax evs (map means units) w (Refused k)
  refused_at evs units done rest x k w whole is refused =
      subst (λ us. HaveDefined means jmax evs us w (Refused k)) (sym (means_seam units done rest x whole))
      (subst (λ n. HaveDefined means jmax evs (map means done ++ means x ∷ map means rest) w (Refused n)) (sym (is ∙ sym (length-map done means)))
      (means x, seam_there (map means done) (means x) (map means rest), subst (λ l. IsRefusedIn means jmax (evs ++ map define_of l) (define_of (means x)) w) (sym (take_seam (map means done) (means x ∷ map means rest))) refused))

  -- or its definition was stopped
  pub stopped_at : (evs : List (Event Meaning)) (units done rest : List U) (x : U) (st : Stop) (w : View (Entry U)) → units ≡ done ++ x ∷ rest → IsStoppedIn means jmax (evs ++ defines done) w st →
      HaveDefined means jmax evs (map means units) w (Stopped st)
  stopped_at evs units done rest x st w whole stopped =
      subst (λ us. HaveDefined means jmax evs us w (Stopped st)) (sym (means_seam units done rest x whole))
      (length (map means done), seam_within (map means done) (means x) (map means rest), subst (λ l. IsStoppedIn means jmax (evs ++ map define_of l) w st) (sym (take_seam (map means done) (means x ∷ map means rest))) stopped)

  -- a tracker that was not made
  pub begin_stopped : {A : Type 0} (main : NameId) (w : View (Entry U)) (answer : Result A Stop) → IfErr answer (IsStoppedIn means jmax (event.Dylib main ∷ []) w) →
      IfErr answer (λ st. (n : ℕ) × (n < 2) × IsStoppedIn means jmax (take n (beginning main)) w st)
  begin_stopped main w (Ok done) s = tt
  begin_stopped main w (Err st) s = (1, omega arith, s)

  counted : (evs : List (Event Meaning)) (h : List (Entry Meaning)) → AreDone evs h → length h ≡ length evs
  counted evs h d = sym (length-map h (λ (e : Entry Meaning). e.event)) ∙ ap length d.events

  two_more : (main : NameId) (units : List Meaning) (k : ℕ) → beginning main ++ map define_of (take k units) ≡ take (2 + k) (setup_events main units)
  two_more main units k = ap (λ l. beginning main ++ l) (sym (take-map define_of k units)) ∙ ap (λ n. take n (setup_events main units)) (two k)
    where
      two : (n : ℕ) → suc (suc n) ≡ 2 + n
      two n = omega arith

  up_to : (main : NameId) (units : List Meaning) (k : ℕ) (h : List (Entry Meaning)) → AreDone (beginning main ++ map define_of (take k units)) h → IsSetUpTo main units (2 + k) h
  up_to main units k h d = record { events = d.events ∙ two_more main units k; done = d.done }

  -- the units were defined after the beginning
  pub set_up_behind : (main : NameId) (units : List Meaning) (w : View (Entry U)) (o : SetUp) → HaveDefined means jmax (beginning main) units w o → HasSetUp means jmax main units w o
  set_up_behind main units w Done at = (at.0, record { events = at.1.events; done = at.1.done })
  set_up_behind main units w (Refused k) (unit, there, (first, refused)) = (
    first,
    record {
      unit = unit;
      there = there;
      before = refused.before;
      last = refused.last;
      are = refused.are;
      first = up_to main units k refused.before refused.first;
      event_is = refused.event_is;
      refused = refused.refused;
    },
  )
  set_up_behind main units w (Stopped st) (k, lt, (at, cause)) =
      let len = counted (beginning main ++ map define_of (take k units)) (plain_history means w.seen) at.1 in
      let taken = length-map (take k units) define_of ∙ length_taken k units lt in
      (at.0, (2 + k, omega (arith, lt), omega (arith, len, taken), up_to main units k (plain_history means w.seen) at.1), cause)

  -- the beginning was stopped
  pub set_up_cut : (main : NameId) (units : List Meaning) (w : View (Entry U)) (st : Stop) (n : ℕ) → n < 2 → IsStoppedIn means jmax (take n (beginning main)) w st → HasSetUp means jmax main units w (Stopped st)
  set_up_cut main units w st zero lt (at, cause) = (at.0, (0, omega arith, counted [] (plain_history means w.seen) at.1, record { events = at.1.events; done = at.1.done }), cause)
  set_up_cut main units w st (suc zero) lt (at, cause) = (at.0, (1, omega arith, counted (event.Dylib main ∷ []) (plain_history means w.seen) at.1, record { events = at.1.events; done = at.1.done }), cause)
  set_up_cut main units w st (suc (suc n)) lt s = absurd (omega (arith, lt))
