-- A call of a job's stage brings its pass to the next stage.
use Rattle.std.proofs.Common.{◌≡◌, ℕ, ℤ, ◌+◌, true, false, inl, append-nil, List, [], ◌∷◌, ◌++◌, length, refl, sym, ap, subst, ◌∙◌, arith, Option, Some, None, Result, Ok, Err}
use Rattle.std.specs.Prelude.{IfOk}
use Rattle.std.proofs.lemmas.Bool.{both_ways, ltb-true}
use Rattle.std.proofs.lemmas.List.{map-append}
use Rattle.std.proofs.lemmas.List.Elements.{All-cons, All-nil}
use Rattle.orc_ids.specs.declared.ids.UnitId.{UnitId}
use Rattle.orc_ids.specs.declared.lookup.Outcome.{Outcome}
use Rattle.orc_ids.specs.declared.lookup.Stop.{Stop}
use Rattle.orc_ids.specs.declared.lookup.Stop.TheVariants as stop
use Rattle.session_model.specs.Meaning.{Meaning, Refusal}
use Rattle.session_model.specs.Plain.{kept}
use Rattle.session_model.specs.State.{plain_entry, plain_event, plain_history, state}
use Rattle.session_model.specs.History.{IsLegal, HasPlaces, is_full, places}
use Rattle.session_model.specs.declared.entry.Entry.{Entry}
use Rattle.session_model.specs.declared.entry.Event.{Event}
use Rattle.session_model.specs.declared.entry.Event.TheVariants as event
use Rattle.session_model.specs.declared.entry.Reply.{Reply}
use Rattle.session_model.specs.declared.entry.Reply.TheVariants as reply
use Rattle.session_model.specs.declared.entry.Why.{Why}
use Rattle.session_model.specs.declared.entry.Why.TheVariants as why
use Rattle.session_laws.proofs.Declared.{entries_are, kept_within}
use Rattle.notifiers.specs.Notices.{AreHeard, Told, outcomes}
use Rattle.notifiers.specs.declared.notice.Notice.{Notice}
use Rattle.history_laws.specs.Notes.{AreTold}
use Rattle.history_laws.specs.Laws.{may_settle}
use Rattle.history_laws.proofs.Unlodged.{unstirred}
use Rattle.turn_lock.specs.declared.view.View.{View}
use Rattle.session_steps.specs.Handed.{IsLowest}
use Rattle.session_steps.specs.Performs.{Performs, IsStopped, state_of}
use Rattle.shared_session.specs.Does.{seat, HolderIsAnswered, Tells, TellsAlways}
use Rattle.materialization.specs.Laws.{HasReason, IsLeft, GoesOn, may_stop}
use Rattle.materialization.specs.Rest.{IsCall, Has, Rest}
use Rattle.materialization.specs.Stages.{next, stopped}
use Rattle.materialization.specs.declared.stage.Stage.{Stage}
use Rattle.materialization.specs.declared.stage.Stage.TheVariants as stage
use Rattle.materialization.proofs.Going.{job_goes_on}
use Rattle.materialization.proofs.Leaving.{others_leave_a_job}
use Rattle.materialization.proofs.Stopping.{may_give_up, refused_edge_fails, stop_cuts_job, stopped_job_fails, full_is_cause, one_place}
use Rattle.orc_ids.specs.declared.place.Place.{Place}
use Rattle.orc_ids.specs.declared.place.Shape.{Shape}
use Rattle.shared_session.specs.Did.{Single}
use Rattle.shared_session.proofs.Doing.{nothing_is_done}
use Rattle.link_worker.specs.Jobs.{IsCause, IsJobAt, Knows, Leads, LacksPlaces, Steps, is_cut, is_cut_fail, next_by}
use Rattle.link_worker.specs.Units.{Refuses, own_refusal, unfinished}
use Rattle.link_worker.specs.declared.unit.FinishError.{FinishError}
use Rattle.link_worker.specs.declared.unit.FinishError.TheVariants as finish
use Rattle.link_worker.specs.declared.job.Job.{Job}
use Rattle.link_worker.proofs.Telling.{IsPlacedLowest, does_none, does_one, is_placing, places_nothing, places_there, told_by, told_none}
use Rattle.link_worker.proofs.Turning.{Found, TurnOf, found, seen_is, number_is, one_call, no_call, legal_after, seen_plain}

-- Which calls fail for want of memory

-- only a stage that gives a unit up for want of memory makes such a call
pub call_spares : (u : UnitId) (at : Stage) (e : Event Meaning) → IsCall u at e → is_cut at ≡ false → is_cut_fail e ≡ false
call_spares u stage.Place (event.Place v shape) c w = refl
call_spares u stage.Place _ c w = absurd (both_ways false refl c)
call_spares u stage.Resolve e c w = ap is_cut_fail c
call_spares u stage.Link e c w = ap is_cut_fail c
call_spares u (stage.Generate g) e c w = ap is_cut_fail c
call_spares u stage.ResolveAlias e c w = ap is_cut_fail c
call_spares u stage.Emit (event.Emit v groups) c w = refl
call_spares u stage.Emit _ c w = absurd (both_ways false refl c)
call_spares u (stage.Fail cause) e c w = ap is_cut_fail c ∙ same cause w
  where
    same : (cause : Why) → is_cut (stage.Fail cause) ≡ false → is_cut_fail (event.Fail u cause) ≡ false
    same why.NoMemory w = w
    same (why.Refused place kind v) w = refl
    same (why.Missing name) w = refl
    same (why.AliasCycle i) w = refl
    same (why.InError i) w = refl
    same (why.BadDep i) w = refl
    same (why.NoRoom need) w = refl
    same why.Full w = w
call_spares u stage.Over e c w = absurd c

-- only an alias that is resolved leads to a stage that has to know something
pub next_knows : {U : Type 0} (means : U → Meaning) (jmax : ℕ) (h : List (Entry U)) (s : ℕ) (job : Job U) (at : Stage) (r : Reply) → (at ≡ stage.ResolveAlias → ⊥) → Knows means jmax h s job (next at r)
next_knows means jmax h s job stage.Place (reply.Placed base) c = tt
next_knows means jmax h s job stage.Place (reply.NoRoom need) c = tt
next_knows means jmax h s job stage.Resolve reply.Resolved c = tt
next_knows means jmax h s job stage.Link (reply.Offer g) c = tt
next_knows means jmax h s job stage.Link (reply.InError i) c = tt
next_knows means jmax h s job stage.Link (reply.Missing name) c = tt
next_knows means jmax h s job stage.Link (reply.AliasCycle i) c = tt
next_knows means jmax h s job (stage.Generate g) r c = tt
next_knows means jmax h s job stage.ResolveAlias r c = absurd (c refl)
next_knows means jmax h s job stage.Emit (reply.BadDep i) c = tt
next_knows means jmax h s job _ _ c = tt

-- no reply leads to one
pub next_spares : (at : Stage) (r : Reply) → is_cut (next at r) ≡ false
next_spares stage.Place (reply.Placed base) = refl
next_spares stage.Place (reply.NoRoom need) = refl
next_spares stage.Resolve reply.Resolved = refl
next_spares stage.Link (reply.Offer g) = refl
next_spares stage.Link (reply.InError i) = refl
next_spares stage.Link (reply.Missing name) = refl
next_spares stage.Link (reply.AliasCycle i) = refl
next_spares (stage.Generate g) r = refl
next_spares stage.ResolveAlias reply.Resolved = refl
next_spares stage.Emit (reply.BadDep i) = refl
next_spares _ _ = refl

module _ {U : Type 0} (means : U → Meaning) (jmax : ℕ) (v w : View (Entry U)) (u : UnitId) (at : Stage) where
  abbrev the_entry : Event U → Reply → Entry U
  the_entry e r = record { seat = seat v.number; event = e; reply = r }

  -- what a pass has of a job
  abbrev pub HasJob : ℕ → List (Entry Meaning) → Stage → Type 0
  HasJob s h st = Has (state h) s u.0 st × HasReason jmax h s u st

  -- the history that the turn found left the job where it was
  pub left : (old : List (Entry U)) → Found means jmax v old → HasJob v.number (plain_history means v.seen) at → HasJob v.number (plain_history means old) at
  left old f has =
      let k : IsLeft jmax (plain_history means v.seen) (plain_history means f.more) v.number u at = others_leave_a_job jmax (plain_history means v.seen) (plain_history means f.more) v.number u at f.legal f.places f.others has.0 has.1 in
      subst (λ h. HasJob v.number h at) (sym f.grown) (k.has, k.reason)

  -- the call was answered by an entry, and the pass is at the next stage
  pub record Moved (e : Entry Meaning) (then' : Stage) : Type 0 where
    pub has : HasJob w.number (plain_history means w.seen) then'
    pub rest : (refusal : Option Refusal) → (at ≡ stage.Emit → refusal ≡ None) → (es : List (Entry Meaning)) → Rest u refusal then' es → Rest u refusal at (e ∷ es)

  pub moved : (does : List (Entry U) → List (Entry U) → Type 0) (t : TurnOf means jmax v w does) (e : Event U) (r : Reply) → t.new ≡ t.old ++ the_entry e r ∷ [] → IsCall u at (plain_event means e) →
      HasJob v.number (plain_history means v.seen) at → Moved (plain_entry means (the_entry e r)) (next at r)
  moved does t e r grown call has =
      let p : Entry Meaning = plain_entry means (the_entry e r) in
      let old = left t.old (found means jmax v w does t) has in
      let goes : GoesOn jmax (plain_history means t.old) p u at (next at r) = job_goes_on jmax (plain_history means t.old) p u at (legal_after means jmax v w does t (the_entry e r) grown) old.0 call in
      record {
        has = subst (λ s. HasJob s (plain_history means w.seen) (next at r)) (sym (number_is means jmax v w does t))
            (subst (λ h. HasJob v.number h (next at r)) (sym (seen_plain means jmax v w does t (the_entry e r) grown)) (goes.has, goes.reason));
        rest = goes.rest;
      }

  -- one call is what brings the job on
  pub leads_one : (before : List (Entry Meaning)) (e : Event U) (r : Reply) (refusal : Option Refusal) → IsCall u at (plain_event means e) → Moved (plain_entry means (the_entry e r)) (next at r) → (at ≡ stage.Emit → refusal ≡ None) →
      (h : List (Entry Meaning)) (cs : List (ℕ × Entry Meaning)) → Single before (plain_entry means (the_entry e r)) h cs → Leads u refusal at (next at r) h cs
  leads_one before e r refusal call m none h cs s = subst (Leads u refusal at (next at r) h) (sym s.0) (record {
    rest = m.rest refusal none;
    spare = λ spared. All-cons (λ c. is_cut_fail c.1.event ≡ false) (length before + 1, plain_entry means (the_entry e r)) [] (call_spares u at (plain_event means e) call spared) (All-nil (λ c. is_cut_fail c.1.event ≡ false));
  })

  -- The call was stopped

  -- the journal lacks a place for the call
  pub lacks : (h : List (Entry Meaning)) (s : ℕ) (e : Event Meaning) → IsLegal jmax h → HasPlaces jmax h → IsCall u at e → is_full jmax (state h) s e ≡ true → LacksPlaces jmax h
  lacks h s e legal had call full = inl (omega (arith, entries_are h, kept_within jmax h legal had, one_place (state h) s u at e call, ltb-true jmax ((state h).entries + kept (state h) + places (state h) s e) full))

  -- the unit is to be given up, for the reason that the stop says
  pub stops : (does : List (Entry U) → List (Entry U) → Type 0) (t : TurnOf means jmax v w does) (e : Event U) (st : Stop) → IsStopped means jmax t.old t.new (seat v.number) e st → IsCall u at (plain_event means e) → may_stop at ≡ true →
      HasJob v.number (plain_history means v.seen) at → HasJob w.number (plain_history means w.seen) (stopped st) × IsCause means jmax w.seen st
  stops does t e (stop.JournalFull len) s call may has =
      let lawful = t.passed.shows.legal in
      let old = left t.old (found means jmax v w does t) has in
      subst (λ k. HasJob k (plain_history means w.seen) (stage.Fail why.Full) × IsCause means jmax w.seen (stop.JournalFull len)) (sym (number_is means jmax v w does t))
      (subst (λ l. HasJob v.number (plain_history means l) (stage.Fail why.Full) × IsCause means jmax l (stop.JournalFull len)) (sym (seen_is means jmax v w does t ∙ s.0)) (
        (
          may_give_up (state (plain_history means t.old)) v.number u.0 at why.Full (λ is. both_ways false refl (ap may_stop (sym is) ∙ may)) old.0,
          full_is_cause jmax (plain_history means t.old) v.number u at (plain_event means e) lawful.legal lawful.places call s.1.full,
        ),
        (s.1.length, lacks (plain_history means t.old) v.number (plain_event means e) lawful.legal lawful.places call s.1.full),
      ))
  stops does t e stop.NoMemory s call may has =
      let old = left t.old (found means jmax v w does t) has in (
        subst (λ k. HasJob k (plain_history means w.seen) (stage.Fail why.NoMemory)) (sym (number_is means jmax v w does t))
            (subst (λ l. HasJob v.number (plain_history means l) (stage.Fail why.NoMemory)) (sym (seen_is means jmax v w does t ∙ s)) (
              may_give_up (state (plain_history means t.old)) v.number u.0 at why.NoMemory (λ is. both_ways false refl (ap may_stop (sym is) ∙ may)) old.0,
              λ x right. tt,
            )),
        tt,
      )

  -- a stop ends the job with one fail
  pub leads_stopped : (refusal : Option Refusal) (st : Stop) → may_stop at ≡ true → (h : List (Entry Meaning)) → Leads u refusal at (stopped st) h []
  leads_stopped refusal st may h = record {
    rest = λ es r. stopped_job_fails u refusal at es may (stop_cuts_job u refusal st es r);
    spare = λ spared. All-nil (λ c. is_cut_fail c.1.event ≡ false);
  }

-- nobody to tell
none_told : {N : Type 0} (l : List (Notice N)) → outcomes l ≡ [] → l ≡ []
none_told [] e = refl
none_told (n ∷ ns) e = let some : length (outcomes (n ∷ ns)) ≡ 0 = ap length e in absurd (omega arith)

pub no_notices : {N : Type 0} (hears : N → Option Outcome) (fires from to : List (Notice N)) → fires ≡ [] → (t : Told hears fires from to) → to ≡ from
no_notices hears fires from to none t = t.added ∙ (ap (λ l. from ++ l) (none_told t.told (t.same ∙ ap outcomes none)) ∙ append-nil from)

module _ {U N : Type 0} (means : U → Meaning) (hears : N → Option Outcome) (jmax : ℕ) (v w : View (Entry U)) (job : Job U) (at : Stage) (has : IsJobAt means jmax v job at) where
  abbrev entry_of : Event U → Reply → Entry U
  entry_of e r = record { seat = seat v.number; event = e; reply = r }

  -- The call was answered; these were told.
  answered : (does : List (Entry U) → List (Entry U) → Type 0) (t : TurnOf means jmax v w does) (e : Event U) (r : Reply) → t.new ≡ t.old ++ entry_of e r ∷ [] → IsCall job.unit at (plain_event means e) →
      (at ≡ stage.Emit → own_refusal means job ≡ None) → Knows means jmax w.seen w.number job (next at r) →
      (from to told : List (Notice N)) → to ≡ from ++ told → AreHeard hears told → AreTold (plain_history means t.old ++ plain_entry means (entry_of e r) ∷ []) told →
      IsPlacedLowest (state_of means t.old) (plain_event means e) r → Steps means hears jmax v w from to job at (Ok (next at r))
  answered does t e r grown call none knows from to told added heard_it at_it lowest =
      let m = moved means jmax v w job.unit at does t e r grown call (has.has, has.reason) in
      record {
        does = does_one means hears v w (plain_history means t.old) (plain_entry means (entry_of e r)) from to told added heard_it at_it lowest (Leads job.unit (own_refusal means job) at (next at r))
            (leads_one means jmax v w job.unit at (plain_history means t.old) e r (own_refusal means job) call m none) (one_call means jmax v w does t (entry_of e r) refl grown);
        job_at = record { has = m.has.0; reason = m.has.1; knows = knows };
        spares = next_spares at r;
        cause = tt;
      }

  stopped_steps : (does : List (Entry U) → List (Entry U) → Type 0) (t : TurnOf means jmax v w does) (e : Event U) (st : Stop) → IsStopped means jmax t.old t.new (seat v.number) e st → IsCall job.unit at (plain_event means e) → may_stop at ≡ true →
      (from : List (Notice N)) → Steps means hears jmax v w from from job at (Err st)
  stopped_steps does t e st s call may from =
      let k = stops means jmax v w job.unit at does t e st s call may (has.has, has.reason) in
      record {
        does = does_none means hears v w from (Leads job.unit (own_refusal means job) at (stopped st)) (leads_stopped means jmax v w job.unit at (own_refusal means job) st may) (no_call means jmax v w does t (same st s));
        job_at = record { has = k.0.0; reason = k.0.1; knows = known st };
        spares = tt;
        cause = k.1;
      }
    where
      same : (q : Stop) → IsStopped means jmax t.old t.new (seat v.number) e q → t.new ≡ t.old
      same (stop.JournalFull len) p = p.0
      same stop.NoMemory p = p

      known : (q : Stop) → Knows means jmax w.seen w.number job (stopped q)
      known (stop.JournalFull len) = tt
      known stop.NoMemory = tt

  -- what the next stage has to know
  abbrev pub KnowsNext : Result Reply Stop → Type 0
  KnowsNext (Ok r) = Knows means jmax w.seen w.number job (next at r)
  KnowsNext (Err st) = Unit {0}

  -- what an answered call of an event places is at the lowest base
  abbrev LowestIn : List (Entry U) → Event U → Result Reply Stop → Type 0
  LowestIn old e (Ok r) = IsPlacedLowest (state_of means old) (plain_event means e) r
  LowestIn old e (Err st) = Unit {0}

  none_in : (old : List (Entry U)) (e : Event U) → is_placing (plain_event means e) ≡ false → (answer : Result Reply Stop) → LowestIn old e answer
  none_in old e unplaced (Ok r) = places_nothing (state_of means old) (plain_event means e) r unplaced
  none_in old e unplaced (Err st) = tt

  lowest_in : (old : List (Entry U)) (u : UnitId) (shape : Shape) (answer : Result Reply Stop) → IfOk answer (λ r. IsLowest (state_of means old) shape r) → LowestIn old (event.Place u shape) answer
  lowest_in old u shape (Ok r) lowest = places_there (state_of means old) u shape r lowest
  lowest_in old u shape (Err st) lowest = tt

  -- what is to be known of a call that tells nobody
  record IsQuiet (e : Event U) (answer : Result Reply Stop) : Type 0 where
    call : IsCall job.unit at (plain_event means e)
    may : may_stop at ≡ true
    quiet : may_settle (plain_event means e) ≡ false
    unrefused : at ≡ stage.Emit → own_refusal means job ≡ None
    knows : KnowsNext answer

  -- a call that tells nobody
  quietly : (does : List (Entry U) → List (Entry U) → Type 0) (t : TurnOf means jmax v w does) (e : Event U) (answer : Result Reply Stop) → Performs means jmax t.old t.new (seat v.number) e answer → LowestIn t.old e answer → IsQuiet e answer →
      (from : List (Notice N)) → Steps means hears jmax v w from from job at (next_by at answer)
  quietly does t e (Ok r) performs lowest q from = answered does t e r performs.grown q.call q.unrefused q.knows from from [] (sym (append-nil from)) (All-nil (λ n. hears n.what ≡ Some n.outcome))
      (told_none jmax (plain_history means t.old) (plain_entry means (entry_of e r)) (legal_after means jmax v w does t (entry_of e r) performs.grown)
      (unstirred (state (plain_history means t.old)) v.number (plain_event means e) r q.quiet)) lowest
  quietly does t e (Err st) performs lowest q from = stopped_steps does t e st performs q.call q.may from

  pub steps_quietly : (e : Event U) (answer : Result Reply Stop) → TurnOf means jmax v w (λ old new. Performs means jmax old new (seat v.number) e answer) → IsCall job.unit at (plain_event means e) → is_placing (plain_event means e) ≡ false → may_stop at ≡ true → may_settle (plain_event means e) ≡ false →
      (at ≡ stage.Emit → own_refusal means job ≡ None) → KnowsNext answer → (from : List (Notice N)) → Steps means hears jmax v w from from job at (next_by at answer)
  steps_quietly e answer t call unplaced may quiet none knows from = quietly _ t e answer t.did (none_in t.old e unplaced answer) (record { call = call; may = may; quiet = quiet; unrefused = none; knows = knows }) from

  -- a place, at the lowest base that was free
  pub steps_placing : (u : UnitId) (shape : Shape) (answer : Result Reply Stop) → TurnOf means jmax v w (λ old new. Performs means jmax old new (seat v.number) (event.Place u shape) answer × IfOk answer (λ r. IsLowest (state_of means old) shape r)) →
      IsCall job.unit at (event.Place u shape) → may_stop at ≡ true → (at ≡ stage.Emit → own_refusal means job ≡ None) → KnowsNext answer → (from : List (Notice N)) → Steps means hears jmax v w from from job at (next_by at answer)
  steps_placing u shape answer t call may none knows from = quietly _ t (event.Place u shape) answer t.did.0 (lowest_in t.old u shape answer t.did.1) (record { call = call; may = may; quiet = refl; unrefused = none; knows = knows }) from

  -- a call that tells the notes of what it settles
  pub steps_told : (e : Event U) (answer : Result Reply Stop) (fires from to : List (Notice N)) → TurnOf means jmax v w (λ old new. Tells means jmax v.number old new e answer fires) → Told hears fires from to →
      IsCall job.unit at (plain_event means e) → is_placing (plain_event means e) ≡ false → may_stop at ≡ true → (at ≡ stage.Emit → own_refusal means job ≡ None) → KnowsNext answer → Steps means hears jmax v w from to job at (next_by at answer)
  steps_told e (Ok r) fires from to t told call unplaced may none knows = answered _ t e r t.did.performs.grown call none knows from to told.told told.added told.heard_it
      (told_by hears (plain_history means t.old ++ plain_entry means (entry_of e r) ∷ []) fires from to
      (subst (λ l. AreTold l fires) (ap (plain_history means) t.did.performs.grown ∙ map-append (plain_entry means) t.old (entry_of e r ∷ [])) t.did.tells) told) (places_nothing (state_of means t.old) (plain_event means e) r unplaced)
  steps_told e (Err st) fires from to t told call unplaced may none knows = subst (λ l. Steps means hears jmax v w from l job at (Err st)) (sym (no_notices hears fires from to t.did.tells told)) (stopped_steps _ t e st t.did.performs call may from)

  -- a fail, which is never stopped
  pub fails : (cause : Why) (e : Event U) (r : Reply) (fires from to : List (Notice N)) → at ≡ stage.Fail cause → TurnOf means jmax v w (λ old new. Tells means jmax v.number old new e (Ok r) fires) → Told hears fires from to →
      IsCall job.unit at (plain_event means e) → is_placing (plain_event means e) ≡ false → Steps means hears jmax v w from to job at (Ok (next at r))
  fails cause e r fires from to is t told call unplaced = answered _ t e r t.did.performs.grown call (λ emits. absurd (both_ways true (ap may_stop (sym emits ∙ is)) refl)) (subst (λ a. Knows means jmax w.seen w.number job (next a r)) (sym is) tt) from to told.told told.added told.heard_it
      (told_by hears (plain_history means t.old ++ plain_entry means (entry_of e r) ∷ []) fires from to
      (subst (λ l. AreTold l fires) (ap (plain_history means) t.did.performs.grown ∙ map-append (plain_entry means) t.old (entry_of e r ∷ [])) t.did.tells) told) (places_nothing (state_of means t.old) (plain_event means e) r unplaced)

  -- what the next stage of any other one has to know
  pub knows_next : (answer : Result Reply Stop) → (at ≡ stage.ResolveAlias → ⊥) → KnowsNext answer
  knows_next (Ok r) other = next_knows means jmax w.seen w.number job at r other
  knows_next (Err st) other = tt

  -- a fail by the seat that holds the unit is answered
  pub fail_steps : (cause : Why) (answer : Result Reply Stop) (fires from to : List (Notice N)) → at ≡ stage.Fail cause → TurnOf means jmax v w (λ old new. TellsAlways means jmax v.number old new (event.Fail job.unit cause) answer fires × HolderIsAnswered means jmax v.number old new job.unit answer) → Told hears fires from to →
      Steps means hears jmax v w from to job at (Ok stage.Over)
  fail_steps cause (Ok r) fires from to is t told = subst (λ a. Steps means hears jmax v w from to job at (Ok a)) (ap (λ a. next a r) is)
      (fails cause (event.Fail job.unit cause) r fires from to is (record { old = t.old; new = t.new; passed = t.passed; did = t.did.0.tells }) told (subst (λ a. IsCall job.unit a (event.Fail job.unit cause)) (sym is) refl) refl)
  fail_steps cause (Err st) fires from to is t told =
      let here = subst (Has (state (plain_history means t.old)) v.number job.unit.0) is (left means jmax v w job.unit at t.old (found means jmax v w _ t) (has.has, has.reason)).0 in
      absurd (both_ways false refl (t.did.1 here.0.unit here.0.there here.0.seat))

-- Without a call

module _ {U N : Type 0} (means : U → Meaning) (hears : N → Option Outcome) (jmax : ℕ) (v : View (Entry U)) (job : Job U) where
  -- a job that is over
  pub over_steps : IsJobAt means jmax v job stage.Over → (from : List (Notice N)) → Steps means hears jmax v v from from job stage.Over (Ok stage.Over)
  over_steps has from = record {
    does = does_none means hears v v from (Leads job.unit (own_refusal means job) stage.Over stage.Over) (λ h. record { rest = λ es r. r; spare = λ spared. All-nil (λ c. is_cut_fail c.1.event ≡ false) }) (nothing_is_done means v);
    job_at = has;
    spares = refl;
    cause = tt;
  }

  -- the unit has an edge out of range
  refused_steps : IsJobAt means jmax v job stage.Emit → (place : Place) (kind : ℕ) (value : ℤ) → own_refusal means job ≡ Some (place, kind, value) → (from : List (Notice N)) →
      Steps means hears jmax v v from from job stage.Emit (Ok (stage.Fail (why.Refused place kind value)))
  refused_steps has place kind value is from = record {
    does = does_none means hears v v from (Leads job.unit (own_refusal means job) stage.Emit (stage.Fail (why.Refused place kind value))) (λ h. record {
      rest = λ es r. subst (λ q. Rest job.unit q stage.Emit es) (sym is) (refused_edge_fails job.unit (place, kind, value) es r);
      spare = λ spared. All-nil (λ c. is_cut_fail c.1.event ≡ false);
    }) (nothing_is_done means v);
    job_at = record {
      has = may_give_up (state (plain_history means v.seen)) v.number job.unit.0 stage.Emit (why.Refused place kind value) (λ e. cc) has.has;
      reason = has.knows.fails (place, kind, value) is;
      knows = tt;
    };
    spares = refl;
    cause = tt;
  }

  -- there was no memory for the unit's bytes
  unmade_steps : IsJobAt means jmax v job stage.Emit → (from : List (Notice N)) → Steps means hears jmax v v from from job stage.Emit (Err stop.NoMemory)
  unmade_steps has from = record {
    does = does_none means hears v v from (Leads job.unit (own_refusal means job) stage.Emit (stage.Fail why.NoMemory)) (leads_stopped means jmax v v job.unit stage.Emit (own_refusal means job) stop.NoMemory refl) (nothing_is_done means v);
    job_at = record {
      has = may_give_up (state (plain_history means v.seen)) v.number job.unit.0 stage.Emit why.NoMemory (λ e. cc) has.has;
      reason = λ x right. tt;
      knows = tt;
    };
    spares = tt;
    cause = tt;
  }

  -- the unit can't be finished
  pub unfinished_steps : IsJobAt means jmax v job stage.Emit → (e : FinishError) → Refuses e (own_refusal means job) → (from : List (Notice N)) → Steps means hears jmax v v from from job stage.Emit (unfinished e)
  unfinished_steps has (finish.Refused place kind value) is from = refused_steps has place kind value is from
  unfinished_steps has finish.NoMemory is from = unmade_steps has from

-- a turn that told, and never wanted memory
pub always_tells : {U N : Type 0} (means : U → Meaning) (jmax : ℕ) (v w : View (Entry U)) (e : Event U) (answer : Result Reply Stop) (fires : List (Notice N)) → TurnOf means jmax v w (λ old new. TellsAlways means jmax v.number old new e answer fires) →
    TurnOf means jmax v w (λ old new. Tells means jmax v.number old new e answer fires)
always_tells means jmax v w e answer fires t = record { old = t.old; new = t.new; passed = t.passed; did = t.did.tells }
