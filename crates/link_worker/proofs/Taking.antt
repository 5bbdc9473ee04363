-- A take that hands out a job brings the pass to the job's first stage.
use Rattle.std.proofs.Common.{◌≡◌, ℕ, ◌+◌, ◌<◌, ◌^◌, Bool, true, false, List, [], ◌∷◌, ◌++◌, length, map, slice_get, append-nil, refl, sym, ap, subst, ◌∙◌, Option, Some, None, is_some, unwrap_or}
use Rattle.std.specs.Bool.{if◌then◌else◌}
use Rattle.std.specs.Option.{option_map_or}
use Rattle.std.proofs.lemmas.Option.{none-some, same_Some}
use Rattle.std.proofs.lemmas.List.Elements.{All-cons, All-nil}
use Rattle.orc_ids.specs.declared.ids.UnitId.{UnitId}
use Rattle.orc_ids.specs.declared.lookup.Outcome.{Outcome}
use Rattle.orc_ids.specs.declared.place.Shape.{Shape}
use Rattle.session_model.specs.Meaning.{Meaning, Bindings, Refusal, FitsUnit, IsLawful}
use Rattle.session_model.specs.Plain.{Plain, UnitRow, is_alias, is_defunct, own_rows, unit_shape}
use Rattle.session_model.specs.State.{plain_entry, plain_history, state}
use Rattle.session_model.specs.Answer.{is_stage}
use Rattle.session_model.specs.Calls.{AfterTake, refusal_of}
use Rattle.session_model.specs.History.{IsLegal}
use Rattle.session_model.specs.declared.entry.Entry.{Entry}
use Rattle.session_model.specs.declared.entry.Event.TheVariants as event
use Rattle.session_model.specs.declared.entry.Finishing.TheVariants as finishing
use Rattle.session_model.specs.declared.entry.Reply.{Reply}
use Rattle.session_model.specs.declared.entry.Reply.TheVariants as reply
use Rattle.session_model.specs.declared.entry.Why.TheVariants as why
use Rattle.session_model.specs.declared.rows.UnitPhase.TheVariants as phase
use Rattle.session_laws.proofs.Declared.{same_element}
use Rattle.closure_laws.proofs.Declared.{OneMore, one_more, units_fit}
use Rattle.session_steps.specs.Allowed.{MayFail}
use Rattle.session_steps.specs.Performs.{state_of}
use Rattle.session_steps.specs.Taken.{IsUnitOf}
use Rattle.session_steps.specs.declared.jobs.TakenUnit.{TakenUnit}
use Rattle.execution_session.proofs.HeldCalls.{finishes_itself}
use Rattle.history_laws.proofs.Calling.{right_parts}
use Rattle.turn_lock.specs.declared.view.View.{View}
use Rattle.shared_session.specs.Does.{seat}
use Rattle.materialization.specs.Laws.{Begins, HasReason, IsJobOf, first_of}
use Rattle.materialization.specs.Rest.{Has, HoldsNone, Rest}
use Rattle.materialization.specs.Stages.{first}
use Rattle.materialization.specs.declared.stage.Stage.{Stage}
use Rattle.materialization.specs.declared.stage.Stage.TheVariants as stage
use Rattle.materialization.proofs.Beginning.{IsFinishing, finishing_after, job_begins}
use Rattle.materialization.proofs.Leaving.{others_leave_has}
use Rattle.link_worker.specs.Jobs.{IsHandedOut, IsJobAt, IsBoundTo, Knows, bound_in, is_cut, is_cut_fail, unit_in}
use Rattle.link_worker.specs.Units.{own_refusal}
use Rattle.link_worker.specs.Does.{Does}
use Rattle.link_worker.specs.Works.{HasFirst, IsFree, Opens}
use Rattle.link_worker.specs.declared.job.Job.{Job}
use Rattle.notifiers.specs.declared.notice.Notice.{Notice}
use Rattle.history_laws.proofs.Unlodged.{unstirred}
use Rattle.shared_session.specs.Did.{Single}
use Rattle.link_worker.proofs.Based.{low_base}
use Rattle.link_worker.proofs.Telling.{does_one, places_nothing, told_none}
use Rattle.link_worker.proofs.Turning.{TurnOf, found, legal_after, number_is, one_call, seen_plain}

-- Stages

-- whether an alias would need memory is of no matter
first_same : (r : Reply) (a : Bool) (o : Option Shape) → first r a (is_some o) ≡ first r a (is_some (if a then None else o))
first_same (reply.Start u) true o = refl
first_same (reply.Finish u (finishing.Bound b)) true o = refl
first_same (reply.Finish u (finishing.Lost i)) true o = refl
first_same r true o = same_other r (is_some o)
  where
    same_other : (q : Reply) (b : Bool) → first q true b ≡ first q true false
    same_other (reply.Start u) b = refl
    same_other (reply.Finish u (finishing.Bound c)) b = refl
    same_other (reply.Finish u (finishing.Lost i)) b = refl
    same_other _ b = refl
first_same r false o = refl

-- no job begins with a fail for want of memory
first_spares : (r : Reply) (a b : Bool) → is_cut (first r a b) ≡ false
first_spares (reply.Start u) true b = refl
first_spares (reply.Start u) false true = refl
first_spares (reply.Start u) false false = refl
first_spares (reply.Finish u (finishing.Bound c)) true b = refl
first_spares (reply.Finish u (finishing.Bound c)) false b = refl
first_spares (reply.Finish u (finishing.Lost i)) a b = refl
first_spares _ a b = refl

-- a refusal has a part in the rest of a job only from where the unit is finished
rest_of_start : (u v : UnitId) (refusal other : Option Refusal) (a b : Bool) (es : List (Entry Meaning)) → Rest u refusal (first (reply.Start v) a b) es → Rest u other (first (reply.Start v) a b) es
rest_of_start u v refusal other true b es r = r
rest_of_start u v refusal other false true es r = r
rest_of_start u v refusal other false false es r = r

rest_same : (r : Reply) (u : UnitId) (refusal other : Option Refusal) → unit_in r ≡ Some u → ((b : Bindings) → r ≡ reply.Finish u (finishing.Bound b) → refusal ≡ other) → (a b : Bool) (es : List (Entry Meaning)) → Rest u refusal (first r a b) es → Rest u other (first r a b) es
rest_same (reply.Start v) u refusal other is same a b es k = rest_of_start u v refusal other a b es k
rest_same (reply.Finish v (finishing.Bound c)) u refusal other is same a b es k = subst (λ q. Rest u q (first (reply.Finish v (finishing.Bound c)) a b) es) (same c (ap (λ n. reply.Finish n (finishing.Bound c)) (same_Some v u is))) k
rest_same (reply.Finish v (finishing.Lost i)) u refusal other is same a b es k = k
rest_same _ u refusal other is same a b es k = k

job_of : (r : Reply) (u : UnitId) → unit_in r ≡ Some u → IsJobOf u r
job_of (reply.Start v) u is = same_Some v u is
job_of (reply.Finish v how) u is = same_Some v u is
job_of _ u is = absurd (none-some u is)

-- the first stage is that of the unit in the session
stage_at : {U : Type 0} (means : U → Meaning) (m : Plain) (u : UnitId) (r : Reply) (taken : TakenUnit U) → IsUnitOf means m u taken → first r (is_some (means taken.share).source) (is_some ((means taken.share).shape taken.live)) ≡ first_of m u r
stage_at means m u r taken its =
    let x : UnitRow = its.unit in
    ap (λ (n : Meaning). first r (is_some n.source) (is_some (n.shape taken.live))) its.share
    ∙ (ap (λ l. first r (is_alias x) (is_some (x.meaning.shape l))) its.live
    ∙ (first_same r (is_alias x) (x.meaning.shape x.live)
    ∙ ap (λ o. first r (option_map_or is_alias o false) (option_map_or (λ (z : UnitRow). is_some (unit_shape z)) o false)) (sym its.there)))

-- the unit's refusal in the session is the job's
refusal_at : {U : Type 0} (means : U → Meaning) (m : Plain) (job : Job U) → IsUnitOf means m job.unit job.taken → ((x : UnitRow) → slice_get m.units job.unit.0 ≡ Some x → x.bound ≡ Some job.bound) → own_refusal means job ≡ refusal_of m job.unit
refusal_at means m job its bound =
    let x : UnitRow = its.unit in
    ap (λ (n : Meaning). n.refusal job.taken.live (unwrap_or job.taken.base 0) job.bound) its.share
    ∙ (ap (λ l. x.meaning.refusal l (unwrap_or job.taken.base 0) job.bound) its.live
    ∙ (ap (λ o. x.meaning.refusal x.live (unwrap_or o 0) job.bound) its.base
    ∙ (ap (λ o. x.meaning.refusal x.live (unwrap_or x.base 0) (unwrap_or o [])) (sym (bound x its.there))
    ∙ ap (λ o. option_map_or (λ (z : UnitRow). z.meaning.refusal z.live (unwrap_or z.base 0) (unwrap_or z.bound [])) o None) (sym its.there))))

-- What a job knows of its unit

module _ {U : Type 0} (means : U → Meaning) (jmax : ℕ) (h : List (Entry U)) (s : ℕ) (job : Job U) (legal : IsLegal jmax (plain_history means h)) (its : IsUnitOf means (state_of means h) job.unit job.taken) (lawful : IsLawful (means job.taken.share)) where
  -- the unit is to be finished, with the bindings of the job
  module _ (f : IsFinishing (state_of means h) job.unit job.bound) where
    same : its.unit ≡ f.unit
    same = same_element (slice_get (state_of means h).units job.unit.0) its.unit f.unit its.there f.there

    is_bound : IsBoundTo means (state_of means h) job
    is_bound x t = ap (λ (z : UnitRow). z.bound) (same_element (slice_get (state_of means h).units job.unit.0) x f.unit t f.there) ∙ f.bound

    row_fits : FitsUnit f.unit.meaning f.unit.live job.bound (own_rows job.unit.0 0 (state_of means h).rows)
    row_fits = units_fit jmax (plain_history means h) legal job.unit.0 f.unit job.bound f.there (ap is_defunct f.phase) f.bound

    meaning_is : means job.taken.share ≡ f.unit.meaning
    meaning_is = its.share ∙ ap (λ (x : UnitRow). x.meaning) same

    live_is : job.taken.live ≡ f.unit.live
    live_is = its.live ∙ ap (λ (x : UnitRow). x.live) same

    base_is : job.taken.base ≡ f.unit.base
    base_is = its.base ∙ ap (λ (x : UnitRow). x.base) same

    fits_it : FitsUnit (means job.taken.share) job.taken.live job.bound job.taken.instances
    fits_it = subst (λ m. FitsUnit m job.taken.live job.bound job.taken.instances) (sym meaning_is) (subst (λ l. FitsUnit f.unit.meaning l job.bound job.taken.instances) (sym live_is)
        (subst (FitsUnit f.unit.meaning f.unit.live job.bound) (sym its.instances) row_fits))

    alias_is : is_some (means job.taken.share).source ≡ is_alias f.unit
    alias_is = ap (λ (m : Meaning). is_some m.source) meaning_is

    refused_is : (r : Refusal) → own_refusal means job ≡ Some r → MayFail jmax (plain_history means h) (state_of means h) s job.unit (why.Refused r.0 r.1 r.2)
    refused_is r is x right =
        let there : x ≡ f.unit = same_element (slice_get (state_of means h).units job.unit.0) x f.unit (right_parts (state_of means h) s job.unit (λ z. true) x right).0.there f.there in (
          ap (λ (z : UnitRow). is_stage phase.Finishing z.phase) there ∙ ap (is_stage phase.Finishing) f.phase,
          (
            job.bound,
            ap (λ (z : UnitRow). z.bound) there ∙ f.bound,
            ap (λ (z : UnitRow). z.meaning.refusal z.live (unwrap_or z.base 0) job.bound) there
                ∙ (ap (λ (m : Meaning). m.refusal f.unit.live (unwrap_or f.unit.base 0) job.bound) (sym meaning_is) ∙ (ap (λ l. (means job.taken.share).refusal l (unwrap_or f.unit.base 0) job.bound) (sym live_is)
                ∙ (ap (λ o. (means job.taken.share).refusal job.taken.live (unwrap_or o 0) job.bound) (sym base_is) ∙ is))),
          ),
        )

    finish_knows : (a : Bool) → is_some (means job.taken.share).source ≡ a → Knows means jmax h s job (if a then stage.ResolveAlias else stage.Emit)
    finish_knows true e = record { its = its; bound = is_bound; alias = e; lawful = lawful; fits = fits_it; unbased = base_is ∙ f.unbased (sym alias_is ∙ e) }
    finish_knows false e = record {
      fits = fits_it;
      low = subst (λ o. unwrap_or o 0 < 2 ^ 62) (sym base_is) (low_base jmax (plain_history means h) legal job.unit.0 f.unit f.there (sym alias_is ∙ e));
      emits = λ made finished x right. finishes_itself means (state_of means h) s job.unit job.taken job.bound made x its is_bound finished right;
      fails = refused_is;
    }

  start_knows : (a b : Bool) → Knows means jmax h s job (if a then stage.Link else (if b then stage.Place else stage.Resolve))
  start_knows true b = tt
  start_knows false true = its
  start_knows false false = tt

  pub first_knows : (r : Reply) → unit_in r ≡ Some job.unit → job.bound ≡ bound_in r → ((b : Bindings) → r ≡ reply.Finish job.unit (finishing.Bound b) → IsFinishing (state_of means h) job.unit b) →
      Knows means jmax h s job (first r (is_some (means job.taken.share).source) (is_some ((means job.taken.share).shape job.taken.live)))
  first_knows (reply.Start u) is bound finishes = start_knows (is_some (means job.taken.share).source) (is_some ((means job.taken.share).shape job.taken.live))
  first_knows (reply.Finish u (finishing.Bound b)) is bound finishes = finish_knows (subst (IsFinishing (state_of means h) job.unit) (sym bound) (finishes b (ap (λ n. reply.Finish n (finishing.Bound b)) (same_Some u job.unit is)))) (is_some (means job.taken.share).source) refl
  first_knows (reply.Finish u (finishing.Lost i)) is bound finishes = tt
  first_knows _ is bound finishes = tt

-- The take

module _ {U : Type 0} (means : U → Meaning) (jmax : ℕ) (v w : View (Entry U)) (free : IsFree means v) (does : List (Entry U) → List (Entry U) → Type 0) (t : TurnOf means jmax v w does) (r : Reply) where
  abbrev pub take_entry : Entry U
  take_entry = record { seat = seat v.number; event = event.Take; reply = r }

  -- the history that the take found, and the one that it left
  abbrev before : List (Entry Meaning)
  before = plain_history means t.old

  none_before : HoldsNone (state before) v.number
  none_before = let f = found means jmax v w does t in
      subst (λ l. HoldsNone (state l) v.number) (sym f.grown) (others_leave_has jmax (plain_history means v.seen) (plain_history means f.more) f.legal v.number 0 f.others stage.Over free)

  module _ (grown : t.new ≡ t.old ++ take_entry ∷ []) where
    whole : plain_history means w.seen ≡ before ++ plain_entry means take_entry ∷ []
    whole = seen_plain means jmax v w does t take_entry grown

    legal : IsLegal jmax (before ++ plain_entry means take_entry ∷ [])
    legal = legal_after means jmax v w does t take_entry grown

    begins : (u : UnitId) → IsJobOf u r → Begins jmax before (plain_entry means take_entry) u (first_of (state (before ++ plain_entry means take_entry ∷ [])) u r)
    begins u is = job_begins jmax before (plain_entry means take_entry) u legal refl is none_before

    finishes : (u : UnitId) (b : Bindings) → r ≡ reply.Finish u (finishing.Bound b) → IsFinishing (state_of means w.seen) u b
    finishes u b e = subst (λ l. IsFinishing (state l) u b) (sym whole) (subst (λ q. OneMore jmax before (record { seat = seat v.number; event = event.Take; reply = q }) → IsFinishing (state (before ++ record { seat = seat v.number; event = event.Take; reply = q } ∷ [])) u b) (sym e)
        (finishing_after jmax before (seat v.number) u b none_before) (one_more jmax before (plain_entry means take_entry) legal))

    -- a job that was handed out, with what the session has of it
    record Handed (taken : TakenUnit U) (job : Job U) (at : Stage) : Type 0 where
      its : IsUnitOf means (state_of means w.seen) job.unit job.taken
      stage_is : at ≡ first_of (state (before ++ plain_entry means take_entry ∷ [])) job.unit r
      is : IsJobOf job.unit r

    handed_out : (u : UnitId) (taken : TakenUnit U) → unit_in r ≡ Some u → IsUnitOf means (state_of means w.seen) u taken → (job : Job U) (at : Stage) → IsHandedOut means r taken job at → Handed taken job at
    handed_out u taken is its job at k =
        let u_is : u ≡ job.unit = same_Some u job.unit (sym is ∙ k.unit) in
        let its' : IsUnitOf means (state_of means w.seen) job.unit taken = subst (λ n. IsUnitOf means (state_of means w.seen) n taken) u_is its in
        record {
          its = subst (IsUnitOf means (state_of means w.seen) job.unit) (sym k.its) its';
          stage_is = k.first ∙ (stage_at means (state_of means w.seen) job.unit r taken its' ∙ ap (λ l. first_of (state l) job.unit r) whole);
          is = job_of r job.unit k.unit;
        }

    at_first : (u : UnitId) (taken : TakenUnit U) → unit_in r ≡ Some u → IsUnitOf means (state_of means w.seen) u taken → (job : Job U) (at : Stage) → IsHandedOut means r taken job at → IsJobAt means jmax w job at × (is_cut at ≡ false)
    at_first u taken is its job at k =
        let handed = handed_out u taken is its job at k in
        let b = begins job.unit handed.is in
        let stands : Has (state_of means w.seen) w.number job.unit.0 at × HasReason jmax (plain_history means w.seen) w.number job.unit at =
        subst (λ s. Has (state_of means w.seen) s job.unit.0 at × HasReason jmax (plain_history means w.seen) s job.unit at) (sym (number_is means jmax v w does t))
        (subst (λ l. Has (state l) v.number job.unit.0 at × HasReason jmax l v.number job.unit at) (sym whole)
        (subst (λ z. Has (state (before ++ plain_entry means take_entry ∷ [])) v.number job.unit.0 z × HasReason jmax (before ++ plain_entry means take_entry ∷ []) v.number job.unit z) (sym handed.stage_is) (b.has, b.reason))) in
        let first_is : at ≡ first r (is_some (means job.taken.share).source) (is_some ((means job.taken.share).shape job.taken.live)) =
        k.first ∙ ap (λ (z : TakenUnit U). first r (is_some (means z.share).source) (is_some ((means z.share).shape z.live))) (sym k.its) in (
          record {
            has = stands.0;
            reason = stands.1;
            knows = subst (Knows means jmax w.seen w.number job) (sym first_is)
                (first_knows means jmax w.seen w.number job (subst (IsLegal jmax) (sym whole) legal) handed.its (subst (λ (z : TakenUnit U). IsLawful (means z.share)) (sym k.its) k.lawful) r k.unit k.bound (finishes job.unit));
          },
          ap is_cut first_is ∙ first_spares r (is_some (means job.taken.share).source) (is_some ((means job.taken.share).shape job.taken.live)),
        )

    -- the pass has the job at its first stage
    pub has_first : (u : UnitId) (taken : TakenUnit U) → unit_in r ≡ Some u → IsUnitOf means (state_of means w.seen) u taken → HasFirst means jmax w r taken
    has_first u taken is its = record { job_is = ap is_some is; flags = its.flags; at_first = at_first u taken is its }

    -- the call begins the job
    opens : (u : UnitId) (taken : TakenUnit U) → unit_in r ≡ Some u → IsUnitOf means (state_of means w.seen) u taken → (job : Job U) (at : Stage) → IsHandedOut means r taken job at → (h : List (Entry Meaning)) (cs : List (ℕ × Entry Meaning)) →
        Single before (plain_entry means take_entry) h cs → Opens job.unit (own_refusal means job) at h cs
    opens u taken is its job at k h cs s = subst (Opens job.unit (own_refusal means job) at h) (sym s.0) (record {
      job = λ ds rest. (
        refl,
        subst (λ l. AfterTake (state l) r (map (λ d. d.1) ds)) (sym s.2) (b.job (map (λ d. d.1) ds)
            (subst (λ z. Rest job.unit (refusal_of (state (before ++ plain_entry means take_entry ∷ [])) job.unit) z (map (λ d. d.1) ds)) handed.stage_is
            (subst (λ z. Rest job.unit (refusal_of (state (before ++ plain_entry means take_entry ∷ [])) job.unit) z (map (λ d. d.1) ds)) (sym k.first)
            (rest_same r job.unit (own_refusal means job) (refusal_of (state (before ++ plain_entry means take_entry ∷ [])) job.unit) k.unit refused (is_some (means taken.share).source) (is_some ((means taken.share).shape taken.live)) (map (λ d. d.1) ds)
            (subst (λ z. Rest job.unit (own_refusal means job) z (map (λ d. d.1) ds)) k.first rest))))),
      );
      spare = All-cons (λ c. is_cut_fail c.1.event ≡ false) (length before + 1, plain_entry means take_entry) [] refl (All-nil (λ c. is_cut_fail c.1.event ≡ false));
    })
      where
        handed : Handed taken job at
        handed = handed_out u taken is its job at k

        b : Begins jmax before (plain_entry means take_entry) job.unit (first_of (state (before ++ plain_entry means take_entry ∷ [])) job.unit r)
        b = begins job.unit handed.is

        refused : (c : Bindings) → r ≡ reply.Finish job.unit (finishing.Bound c) → own_refusal means job ≡ refusal_of (state (before ++ plain_entry means take_entry ∷ [])) job.unit
        refused c e =
            let f = finishes job.unit c e in
            refusal_at means (state_of means w.seen) job handed.its (λ x there. ap (λ (z : UnitRow). z.bound) (same_element (slice_get (state_of means w.seen).units job.unit.0) x f.unit there f.there) ∙ (f.bound ∙ ap Some (sym (k.bound ∙ ap bound_in e))))
            ∙ ap (λ l. refusal_of (state l) job.unit) whole

    pub does_open : {N : Type 0} (hears : N → Option Outcome) (u : UnitId) (taken : TakenUnit U) → unit_in r ≡ Some u → IsUnitOf means (state_of means w.seen) u taken → (job : Job U) (at : Stage) → IsHandedOut means r taken job at →
        (from : List (Notice N)) → Does means hears v w from from (Opens job.unit (own_refusal means job) at)
    does_open hears u taken is its job at k from = does_one means hears v w before (plain_entry means take_entry) from from [] (sym (append-nil from)) (All-nil (λ n. hears n.what ≡ Some n.outcome))
        (told_none jmax before (plain_entry means take_entry) legal (unstirred (state before) v.number event.Take r refl)) (places_nothing (state before) event.Take r refl) (Opens job.unit (own_refusal means job) at) (opens u taken is its job at k) (one_call means jmax v w does t take_entry refl grown)
