-- A seat that took a job has its unit at the first stage.
use Rattle.std.proofs.Common.{◌≡◌, ℕ, MatchBool, Bool, true, false, not, ◌&&◌, ◌||◌, List, [], ◌∷◌, ◌++◌, slice_get, ◌⊎◌, inl, inr, subst, sym, refl, ap, ◌∙◌, Option, Some, None, is_some}
use Rattle.std.specs.Bool.{if◌then◌else◌}
use Rattle.std.specs.Prelude.{is_none}
use Rattle.std.specs.Option.{option_map_or}
use Rattle.std.proofs.lemmas.Bool.{both_ways}
use Rattle.orc_ids.specs.declared.ids.InstId.{InstId}
use Rattle.orc_ids.specs.declared.ids.SeatNo.{SeatNo}
use Rattle.orc_ids.specs.declared.ids.UnitId.{UnitId}
use Rattle.orc_ids.specs.declared.place.Shape.{Shape}
use Rattle.session_model.specs.Lists.{changed_at}
use Rattle.session_model.specs.Meaning.{Meaning, Bindings}
use Rattle.session_model.specs.Plain.{Plain, UnitRow, empty, is_alias, unit_shape}
use Rattle.session_model.specs.State.{state}
use Rattle.session_model.specs.Answer.{AnswersTake, LinkEnded, is_stage}
use Rattle.session_model.specs.Calls.{Emits, Links, Places, Resolves, refusal_of, unit_test}
use Rattle.session_model.specs.Change.{change_of, changed, started_unit, finishing_unit}
use Rattle.session_model.specs.declared.change.Change.TheVariants.{Start, Finish}
use Rattle.session_model.specs.declared.entry.Entry.{Entry}
use Rattle.session_model.specs.declared.entry.Event.{Event}
use Rattle.session_model.specs.declared.entry.Event.TheVariants as event
use Rattle.session_model.specs.declared.entry.Finishing.{Finishing}
use Rattle.session_model.specs.declared.entry.Finishing.TheVariants as finishing
use Rattle.session_model.specs.declared.entry.Reply.{Reply}
use Rattle.session_model.specs.declared.entry.Reply.TheVariants as reply
use Rattle.session_model.specs.declared.entry.Why.TheVariants as why
use Rattle.session_model.specs.declared.rows.Ending.TheVariants.{Lost}
use Rattle.session_model.specs.declared.rows.UnitPhase.TheVariants as phase
use Rattle.session_laws.proofs.Declared.{state_from_push, changed_cases, changed_some, same_element, end_stays, sound_changed, Guard, start_listed, finish_linked}
use Rattle.closure_laws.proofs.Declared.{OneMore, one_more, is_unbound}
use Rattle.history_laws.proofs.Calling.{right_parts}
use Rattle.materialization.specs.Rest.{HoldsNone, HoldsOnly, IsAt, fits}
use Rattle.materialization.specs.Stages.{first}
use Rattle.materialization.specs.Laws.{Begins, IsJobOf, JobBegins, first_of}
use Rattle.materialization.specs.declared.stage.Stage.{Stage}
use Rattle.materialization.specs.declared.stage.Stage.TheVariants as stage
use Rattle.materialization.proofs.Seats.{after_has, seated_stays}
use Rattle.materialization.proofs.Unbased.{all_unbased}

abbrev entry : SeatNo → Reply → Entry Meaning
entry s r = record { seat = s; event = event.Take; reply = r }

-- the session after it
abbrev took : List (Entry Meaning) → Entry Meaning → Plain
took h e = state (h ++ e ∷ [])

abbrev Begun : ℕ → List (Entry Meaning) → SeatNo → UnitId → Reply → Type 0
Begun jmax h s u r = Begins jmax h (entry s r) u (first_of (took h (entry s r)) u r)

-- a seat that held none holds just the unit that it took
only_taken : (m n : Plain) (s u : ℕ) (f : UnitRow → UnitRow) → n.units ≡ changed_at u f m.units → HoldsNone m s → HoldsOnly n s u
only_taken m n s u f e none v y t k = split (changed_cases u f m.units v y (ap (λ l. slice_get l v) (sym e) ∙ t))
  where
    split : ((v ≡ u) × ((x : UnitRow) × (slice_get m.units v ≡ Some x) × (y ≡ f x))) ⊎ ((v ≡ u → ⊥) × (slice_get m.units v ≡ Some y)) → v ≡ u
    split (inl p) = p.0
    split (inr p) = absurd (none v y p.1 k)

-- the unit's row, which settling leaves
there_after : (jmax : ℕ) (h : List (Entry Meaning)) (e : Entry Meaning) → OneMore jmax h e → (u : ℕ) (y : UnitRow) →
    slice_get (changed (change_of (state h) e.seat.0 e.event e.reply) (state h)).units u ≡ Some y → y.seat ≡ Some e.seat.0 → slice_get (took h e).units u ≡ Some y
there_after jmax h e one u y t k =
    let c = change_of (state h) e.seat.0 e.event e.reply in
    subst (λ (m : Plain). slice_get m.units u ≡ Some y) (sym (state_from_push empty h e)) (seated_stays (changed c (state h)) e.seat.0 u y (sound_changed (state h) e.seat.0 c one.sound one.guard) t k)

test_at : (test : UnitRow → Bool) (m : Plain) (u : UnitId) (y : UnitRow) → slice_get m.units u.0 ≡ Some y → test y ≡ unit_test test m u
test_at test m u y t = ap (λ o. option_map_or test o false) (sym t)

-- A start

unshaped : (o : Option Shape) → is_some o ≡ false → is_none o ≡ true
unshaped None e = refl
unshaped (Some shape) e = absurd (both_ways true e refl)

start_begins : (jmax : ℕ) (h : List (Entry Meaning)) (s : SeatNo) (u : UnitId) → HoldsNone (state h) s.0 → OneMore jmax h (entry s (reply.Start u)) → Begun jmax h s u (reply.Start u)
start_begins jmax h s u none one = by_unit (unit_test is_alias m u) (unit_test needs_memory m u) refl refl (test_at is_alias m u y there) (test_at needs_memory m u y there)
  where
    e : Entry Meaning
    e = entry s (reply.Start u)

    m : Plain
    m = took h (entry s (reply.Start u))

    needs_memory : UnitRow → Bool
    needs_memory x = is_some (unit_shape x)

    x : (x : UnitRow) × (slice_get (state h).units u.0 ≡ Some x) × (x.phase ≡ phase.Listed)
    x = start_listed (state h) u.0 one.guard.1 one.sound one.guard.2

    y : UnitRow
    y = started_unit s.0 x.0

    now : slice_get (changed (Start (record { 0 = s.0 }) u) (state h)).units u.0 ≡ Some y
    now = changed_some u.0 (started_unit s.0) (state h).units x.0 x.1

    there : slice_get m.units u.0 ≡ Some y
    there = there_after jmax h e one u.0 y now refl

    at : (at : Stage) → fits at y ≡ true → IsAt (changed (Start (record { 0 = s.0 }) u) (state h)) s.0 u.0 at
    at a f = record { unit = y; there = now; seat = refl; how = inr f }

    only : HoldsOnly (changed (Start (record { 0 = s.0 }) u) (state h)) s.0 u.0
    only = only_taken (state h) (changed (Start (record { 0 = s.0 }) u) (state h)) s.0 u.0 (started_unit s.0) refl none

    by_unit : (a b : Bool) → unit_test is_alias m u ≡ a → unit_test needs_memory m u ≡ b → is_alias y ≡ a → needs_memory y ≡ b → Begins jmax h e u (first (reply.Start u) a b)
    by_unit true b i j p q = record {
      has = after_has jmax h e one u.0 stage.Link (at stage.Link (ap (λ c. is_stage (if c then phase.Started else phase.Linking) phase.Started) p), only);
      reason = tt;
      goes = λ f. cc;
      job = λ es k. subst (λ c. MatchBool c (Links u es) (MatchBool (unit_test needs_memory m u) (Places u es) (Resolves (Links u) u es))) (sym i) k;
    }
    by_unit false true i j p q = record {
      has = after_has jmax h e one u.0 stage.Place (at stage.Place q, only);
      reason = tt;
      goes = λ f. cc;
      job = λ es k. subst (λ c. MatchBool c (Links u es) (MatchBool (unit_test needs_memory m u) (Places u es) (Resolves (Links u) u es))) (sym i)
          (subst (λ c. MatchBool c (Places u es) (Resolves (Links u) u es)) (sym j) k);
    }
    by_unit false false i j p q = record {
      has = after_has jmax h e one u.0 stage.Resolve (at stage.Resolve (ap (λ c. (if c then is_stage phase.Finishing phase.Started && is_some y.bound && is_none y.base else is_none (unit_shape y)) && not c) p ∙ ap (λ b. b && true) (unshaped (unit_shape y) q)), only);
      reason = tt;
      goes = λ f. cc;
      job = λ es k. subst (λ c. MatchBool c (Links u es) (MatchBool (unit_test needs_memory m u) (Places u es) (Resolves (Links u) u es))) (sym i)
          (subst (λ c. MatchBool c (Places u es) (Resolves (Links u) u es)) (sym j) k);
    }

-- A finish

-- the unit that is finished
record Finished (jmax : ℕ) (h : List (Entry Meaning)) (s : SeatNo) (u : UnitId) (how : Finishing) : Type 0 where
  unit : UnitRow
  was : slice_get (state h).units u.0 ≡ Some unit
  linked : unit.phase ≡ phase.Linked
  now : slice_get (changed (Finish (record { 0 = s.0 }) u how) (state h)).units u.0 ≡ Some (finishing_unit s.0 how unit)
  only : HoldsOnly (changed (Finish (record { 0 = s.0 }) u how) (state h)) s.0 u.0

finished : (jmax : ℕ) (h : List (Entry Meaning)) (s : SeatNo) (u : UnitId) (how : Finishing) → HoldsNone (state h) s.0 → OneMore jmax h (entry s (reply.Finish u how)) → Finished jmax h s u how
finished jmax h s u how none one =
    let guard : Guard (state h) s.0 (Finish (record { 0 = s.0 }) u how) = one.guard in
    let x = finish_linked (state h) u.0 guard.1 one.sound guard.2 in
    record {
      unit = x.0;
      was = x.1;
      linked = x.2;
      now = changed_some u.0 (finishing_unit s.0 how) (state h).units x.0 x.1;
      only = only_taken (state h) (changed (Finish (record { 0 = s.0 }) u how) (state h)) s.0 u.0 (finishing_unit s.0 how) refl none;
    }

bound_begins : (jmax : ℕ) (h : List (Entry Meaning)) (s : SeatNo) (u : UnitId) (b : Bindings) → HoldsNone (state h) s.0 → OneMore jmax h (entry s (reply.Finish u (finishing.Bound b))) →
    Begun jmax h s u (reply.Finish u (finishing.Bound b))
bound_begins jmax h s u b none one = by_unit (unit_test is_alias m u) refl (test_at is_alias m u y (there_after jmax h e one u.0 y x.now refl))
  where
    e : Entry Meaning
    e = entry s (reply.Finish u (finishing.Bound b))

    m : Plain
    m = took h (entry s (reply.Finish u (finishing.Bound b)))

    x : Finished jmax h s u (finishing.Bound b)
    x = finished jmax h s u (finishing.Bound b) none one

    y : UnitRow
    y = finishing_unit s.0 (finishing.Bound b) x.unit

    -- an alias has no address yet
    unbased : is_alias y ≡ true → is_none y.base ≡ true
    unbased a = ap is_none (all_unbased jmax h one.before u.0 x.unit x.was a (ap is_unbound x.linked))

    by_unit : (a : Bool) → unit_test is_alias m u ≡ a → is_alias y ≡ a → Begins jmax h e u (if a then stage.ResolveAlias else stage.Emit)
    by_unit true i p = record {
      has = after_has jmax h e one u.0 stage.ResolveAlias (record { unit = y; there = x.now; seat = refl; how = inr (ap (λ c. (if c then is_none y.base else is_stage phase.Placed y.phase || is_stage phase.Started y.phase && is_none (unit_shape y)) && c) p ∙ ap (λ c. c && true) (unbased p)) }, x.only);
      reason = tt;
      goes = λ f. cc;
      job = λ es k. subst (λ c. MatchBool c (Resolves (Emits u (refusal_of m u)) u es) (Emits u (refusal_of m u) es)) (sym i) k;
    }
    by_unit false i p = record {
      has = after_has jmax h e one u.0 stage.Emit (record { unit = y; there = x.now; seat = refl; how = inr (ap (λ c. not c || is_some y.base) p) }, x.only);
      reason = tt;
      goes = λ f. cc;
      job = λ es k. subst (λ c. MatchBool c (Resolves (Emits u (refusal_of m u)) u es) (Emits u (refusal_of m u) es)) (sym i) k;
    }

-- the row of a unit that was handed out with its bindings
pub record IsFinishing (m : Plain) (u : UnitId) (b : Bindings) : Type 0 where
  pub unit : UnitRow
  pub there : slice_get m.units u.0 ≡ Some unit
  pub phase : unit.phase ≡ phase.Finishing
  pub bound : unit.bound ≡ Some b
  pub unbased : is_alias unit ≡ true → unit.base ≡ None

pub finishing_after : (jmax : ℕ) (h : List (Entry Meaning)) (s : SeatNo) (u : UnitId) (b : Bindings) → HoldsNone (state h) s.0 → OneMore jmax h (entry s (reply.Finish u (finishing.Bound b))) → IsFinishing (took h (entry s (reply.Finish u (finishing.Bound b)))) u b
finishing_after jmax h s u b none one =
    let x = finished jmax h s u (finishing.Bound b) none one in
    record {
      unit = finishing_unit s.0 (finishing.Bound b) x.unit;
      there = there_after jmax h (entry s (reply.Finish u (finishing.Bound b))) one u.0 (finishing_unit s.0 (finishing.Bound b) x.unit) x.now refl;
      phase = refl;
      bound = refl;
      unbased = λ a. all_unbased jmax h one.before u.0 x.unit x.was a (ap is_unbound x.linked);
    }

-- the link query's end stays
lost_after : (jmax : ℕ) (h : List (Entry Meaning)) (s : SeatNo) (u : UnitId) (i : InstId) (x : Finished jmax h s u (finishing.Lost i)) → OneMore jmax h (entry s (reply.Finish u (finishing.Lost i))) →
    LinkEnded (h ++ entry s (reply.Finish u (finishing.Lost i)) ∷ []) (took h (entry s (reply.Finish u (finishing.Lost i)))) u.0 (Lost i)
lost_after jmax h s u i x one = record {
  unit = finishing_unit s.0 (finishing.Lost i) x.unit;
  there = there_after jmax h e one u.0 (finishing_unit s.0 (finishing.Lost i) x.unit) x.now refl;
  query = k.query;
  its = ap (λ (z : UnitRow). z.query) (same_element (slice_get (state h).units u.0) x.unit k.unit x.was k.there) ∙ k.its;
  at = k.at;
  ended = end_stays h (e ∷ []) k.query k.at (Lost i) k.ended;
}
  where
    e : Entry Meaning
    e = entry s (reply.Finish u (finishing.Lost i))

    guard : Guard (state h) s.0 (Finish (record { 0 = s.0 }) u (finishing.Lost i))
    guard = one.guard

    k : LinkEnded h (state h) u.0 (Lost i)
    k = (subst (λ jobs. AnswersTake h (state h) jobs (reply.Finish u (finishing.Lost i))) guard.2 one.answers).1

lost_begins : (jmax : ℕ) (h : List (Entry Meaning)) (s : SeatNo) (u : UnitId) (i : InstId) → HoldsNone (state h) s.0 → OneMore jmax h (entry s (reply.Finish u (finishing.Lost i))) →
    Begun jmax h s u (reply.Finish u (finishing.Lost i))
lost_begins jmax h s u i none one = record {
  has = after_has jmax h e one u.0 (stage.Fail (why.InError i)) (record { unit = y; there = x.now; seat = refl; how = inr refl }, x.only);
  reason = λ z c. let is : y ≡ z = same_element (slice_get (took h e).units u.0) y z there (right_parts (took h e) s.0 u (λ w. true) z c).0.there in
      inr (ap (λ (w : UnitRow). is_stage phase.Finishing w.phase) (sym is), ap (λ (w : UnitRow). w.bound) (sym is), lost_after jmax h s u i x one);
  goes = λ f. cc;
  job = λ es k. k;
}
  where
    e : Entry Meaning
    e = entry s (reply.Finish u (finishing.Lost i))

    x : Finished jmax h s u (finishing.Lost i)
    x = finished jmax h s u (finishing.Lost i) none one

    y : UnitRow
    y = finishing_unit s.0 (finishing.Lost i) x.unit

    there : slice_get (took h e).units u.0 ≡ Some y
    there = there_after jmax h e one u.0 y x.now refl

-- A take

-- the unit of the reply is that of the job
renamed : (jmax : ℕ) (h : List (Entry Meaning)) (s : SeatNo) (u : UnitId) (reply_of : UnitId → Reply) (v : UnitId) → v ≡ u → OneMore jmax h (entry s (reply_of v)) →
    (OneMore jmax h (entry s (reply_of u)) → Begun jmax h s u (reply_of u)) → Begun jmax h s u (reply_of v)
renamed jmax h s u reply_of v is one begins = subst (λ w. OneMore jmax h (entry s (reply_of w)) → Begun jmax h s u (reply_of w)) (sym is) begins one

begins_by : (jmax : ℕ) (h : List (Entry Meaning)) (s : SeatNo) (u : UnitId) (r : Reply) → IsJobOf u r → HoldsNone (state h) s.0 → OneMore jmax h (entry s r) → Begun jmax h s u r
begins_by jmax h s u (reply.Start v) is none one = renamed jmax h s u reply.Start v is one (start_begins jmax h s u none)
begins_by jmax h s u (reply.Finish v (finishing.Bound b)) is none one = renamed jmax h s u (λ w. reply.Finish w (finishing.Bound b)) v is one (bound_begins jmax h s u b none)
begins_by jmax h s u (reply.Finish v (finishing.Lost i)) is none one = renamed jmax h s u (λ w. reply.Finish w (finishing.Lost i)) v is one (lost_begins jmax h s u i none)
begins_by jmax h s u _ is none one = absurd is

pub job_begins : JobBegins
job_begins jmax h e u l take is none = by_event e.event take (one_more jmax h e l)
  where
    by_event : (v : Event Meaning) → v ≡ event.Take → OneMore jmax h (record e { event = v }) → Begins jmax h (record e { event = v }) u (first_of (state (h ++ record e { event = v } ∷ [])) u e.reply)
    by_event event.Take t one = begins_by jmax h e.seat u e.reply is none one
    by_event _ t one = absurd (cc)
