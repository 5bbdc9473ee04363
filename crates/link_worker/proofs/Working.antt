-- What one job is, put together: its take, and what carries it to its end.
use Rattle.std.proofs.Common.{◌≡◌, ℕ, ◌+◌, ◌≤◌, ◌⊎◌, Bool, true, false, List, [], ◌∷◌, ◌++◌, map, inl, inr, append-nil, append_assoc, refl, sym, ap, subst, ◌∙◌, arith, Option, Some, None, is_some, Result, Ok, Err}
use Rattle.std.specs.Prelude.{IfSome, is_none, nat_eq}
use Rattle.std.proofs.lemmas.Bool.{both_ways, cases_Bool, eqb-true, eqb-false, ltb-true}
use Rattle.std.proofs.lemmas.List.{map-append}
use Rattle.std.proofs.lemmas.List.Elements.{All-nil}
use Rattle.std.proofs.lemmas.Option.{none-some}
use Rattle.orc_ids.specs.declared.ids.UnitId.{UnitId}
use Rattle.orc_ids.specs.declared.lookup.Outcome.{Outcome}
use Rattle.orc_ids.specs.declared.lookup.Stop.{Stop}
use Rattle.orc_ids.specs.declared.lookup.Stop.TheVariants as stop
use Rattle.session_model.specs.Meaning.{Meaning, Refusal}
use Rattle.session_model.specs.Plain.{Plain, kept}
use Rattle.session_model.specs.Calls.{IsJob}
use Rattle.session_model.specs.State.{plain_history, state}
use Rattle.session_model.specs.Answer.{AnswersTake}
use Rattle.session_model.specs.History.{HasPlaces, IsLegal, is_full}
use Rattle.session_model.specs.declared.entry.Entry.{Entry}
use Rattle.session_model.specs.declared.entry.Event.TheVariants as event
use Rattle.session_model.specs.declared.entry.Finishing.TheVariants as finishing
use Rattle.session_model.specs.declared.entry.Reply.{Reply}
use Rattle.session_model.specs.declared.entry.Reply.TheVariants as reply
use Rattle.session_model.specs.declared.rows.Job.{Job as ListedJob}
use Rattle.session_model.specs.declared.rows.Job.TheVariants as listed
use Rattle.session_laws.proofs.Declared.{entries_are, kept_within}
use Rattle.notifiers.specs.declared.notice.Notice.{Notice}
use Rattle.turn_lock.specs.declared.view.View.{View}
use Rattle.turn_lock.specs.Lists.{StartsWith}
use Rattle.session_steps.specs.Performs.{state_of}
use Rattle.session_steps.specs.Taken.{IsUnitOf}
use Rattle.session_steps.specs.declared.jobs.TakenUnit.{TakenUnit}
use Rattle.shared_session.specs.Does.{HandsOut}
use Rattle.materialization.specs.Rest.{HoldsNone, Rest}
use Rattle.materialization.specs.Stages.{stopped}
use Rattle.materialization.specs.declared.stage.Stage.{Stage}
use Rattle.materialization.specs.declared.stage.Stage.TheVariants as stage
use Rattle.materialization.proofs.Leaving.{others_leave_has}
use Rattle.shared_session.specs.Did.{Nothing, Promise}
use Rattle.shared_session.proofs.Doing.{nothing_is_done}
use Rattle.shared_session.proofs.Numbers.{starts_again}
use Rattle.link_worker.specs.Does.{Does}
use Rattle.link_worker.specs.Jobs.{IsCause, LacksPlaces, Leads, SpareAll, Steps, is_cut, is_cut_fail, unit_in}
use Rattle.link_worker.specs.Units.{own_refusal}
use Rattle.link_worker.specs.Works.{Carries, EndsJob, HasBegun, HasWorked, IsFree, Jobs, None', OneMore, OneJob, OneJobAtMost, Opens, WasStopped, WholeJobs, WorksOn, worked_by, worked_stopped}
use Rattle.link_worker.specs.declared.job.Job.{Job}
use Rattle.link_worker.specs.declared.work.Worked.{Worked}
use Rattle.link_worker.specs.declared.work.Worked.TheVariants.{Did, Idle, JournalFull, NoMemory}
use Rattle.link_worker.proofs.Sparing.{spare_both, spare_none}
use Rattle.link_worker.proofs.Taking.{does_open, has_first}
use Rattle.link_worker.proofs.Telling.{does_both, does_none}
use Rattle.link_worker.proofs.Turning.{Found, TurnOf, found, seen_is, number_is, no_call}

-- what comes after two lists of calls
after_both : (P : List (Entry Meaning) → Type 0) (cs ds : List (ℕ × Entry Meaning)) (es : List (Entry Meaning)) → P (map (λ c. c.1) cs ++ (map (λ c. c.1) ds ++ es)) → P (map (λ c. c.1) (cs ++ ds) ++ es)
after_both P cs ds es = subst P (sym (ap (λ l. l ++ es) (map-append (λ (c : ℕ × Entry Meaning). c.1) cs ds) ∙ append_assoc (map (λ c. c.1) cs) (map (λ c. c.1) ds) es))

-- Carrying on

pub carries_on : (u : UnitId) (refusal : Option Refusal) (first at then' : Stage) (spared still : Bool) → (still ≡ true → (spared ≡ true) × (is_cut at ≡ false)) → (h : List (Entry Meaning)) (cs ds : List (ℕ × Entry Meaning)) →
    Carries u refusal first at spared h cs → Leads u refusal at then' h ds → Carries u refusal first then' still h (cs ++ ds)
carries_on u refusal first at then' spared still calm h cs ds a b = record {
  rest = λ es r. after_both (Rest u refusal first) cs ds es (a.rest (map (λ c. c.1) ds ++ es) (b.rest es r));
  spare = λ e. let c = calm e in spare_both cs ds (a.spare c.0) (b.spare c.1);
}

pub carries_none : (u : UnitId) (refusal : Option Refusal) (at : Stage) (spared : Bool) (h : List (Entry Meaning)) → Carries u refusal at at spared h []
carries_none u refusal at spared h = record { rest = λ es r. r; spare = λ e. All-nil (λ c. is_cut_fail c.1.event ≡ false) }

-- a job that was begun and carried to its end is one job
one_job : (u : UnitId) (refusal : Option Refusal) (at : Stage) (spared : Bool) (h : List (Entry Meaning)) (cs ds : List (ℕ × Entry Meaning)) → Opens u refusal at h cs → Carries u refusal at stage.Over spared h ds → IsJob h (cs ++ ds) × (spared ≡ true → SpareAll (cs ++ ds))
one_job u refusal at spared h cs ds a b = (
  a.job ds (subst (Rest u refusal at) (append-nil (map (λ c. c.1) ds)) (b.rest [] refl)),
  λ e. spare_both cs ds a.spare (b.spare e),
)

module _ {U : Type 0} (means : U → Meaning) (jmax : ℕ) where
  -- a stop that was answered since a later history was answered since an earlier one
  pub stopped_since : (first before now : List (Entry U)) (st : Stop) → StartsWith before first → WasStopped means jmax before now st → WasStopped means jmax first now st
  stopped_since first before now st later s = (s.0, s.1, starts_again s.0 before first s.2 later, s.3)

  pub stopped_until : (before mid now : List (Entry U)) (st : Stop) → StartsWith now mid → WasStopped means jmax before mid st → WasStopped means jmax before now st
  stopped_until before mid now st later s = (s.0, starts_again now mid s.0 later s.1, s.2, s.3)

  pub stopped_now : (before now : List (Entry U)) (st : Stop) → StartsWith now before → IsCause means jmax now st → WasStopped means jmax before now st
  stopped_now before now st later c = (now, ([], sym (append-nil now)), later, c)

-- Takes

take_reply : (past : List (Entry Meaning)) (m : Plain) (jobs : List ListedJob) (r : Reply) → AnswersTake past m jobs r → is_some (unit_in r) ≡ true
take_reply past m [] r a = absurd a
take_reply past m (listed.Start u ∷ js) r a = ap (λ q. is_some (unit_in q)) a
take_reply past m (listed.Finish u ∷ js) (reply.Finish v (finishing.Bound b)) a = refl
take_reply past m (listed.Finish u ∷ js) (reply.Finish v (finishing.Lost i)) a = refl
take_reply past m (listed.Finish u ∷ js) _ a = absurd a

module _ {U : Type 0} (means : U → Meaning) (jmax : ℕ) (v x : View (Entry U)) (free : IsFree means v) where
  -- a pass without a unit that made no entry has none
  pub still_free : (does : List (Entry U) → List (Entry U) → Type 0) (t : TurnOf means jmax v x does) → t.new ≡ t.old → IsFree means x
  still_free does t same = subst (λ s. HoldsNone (state_of means x.seen) s) (sym (number_is means jmax v x does t))
      (subst (λ l. HoldsNone (state_of means l) v.number) (sym (seen_is means jmax v x does t ∙ same))
      (subst (λ l. HoldsNone (state l) v.number) (sym f.grown) (others_leave_has jmax (plain_history means v.seen) (plain_history means f.more) f.legal v.number 0 f.others stage.Over free)))
    where
      f : Found means jmax v t.old
      f = found means jmax v x does t

  -- a take of this pass
  abbrev pub TakeOf : Result Reply Stop → Option (TakenUnit U) → Option UnitId → Type 0
  TakeOf answer unit responsibility = TurnOf means jmax v x (λ old new. HandsOut means jmax v.number old new answer unit responsibility)

  -- what the pass knows of the unit that it was handed
  its_unit : (answer : Result Reply Stop) (taken : TakenUnit U) (responsibility : Option UnitId) (u : UnitId) (t : TakeOf answer (Some taken) responsibility) → IsUnitOf means (state_of means t.new) u taken → IsUnitOf means (state_of means x.seen) u taken
  its_unit answer taken responsibility u t its = subst (λ l. IsUnitOf means (state_of means l) u taken) (sym (seen_is means jmax v x _ t)) its

  pub begun : (r : Reply) (unit : Option (TakenUnit U)) (responsibility : Option UnitId) → TakeOf (Ok r) unit responsibility → HasBegun means jmax x r unit
  begun (reply.Start u) (Some taken) o t = has_first means jmax v x free _ t (reply.Start u) t.did.takes.grown u taken refl (its_unit (Ok (reply.Start u)) taken o u t t.did.unit_after)
  begun (reply.Finish u how) (Some taken) o t = has_first means jmax v x free _ t (reply.Finish u how) t.did.takes.grown u taken refl (its_unit (Ok (reply.Finish u how)) taken o u t t.did.unit_after)
  begun (reply.Start u) None o t = absurd t.did.unit_after
  begun (reply.Finish u how) None o t = absurd t.did.unit_after
  begun (reply.Idle held) None o t = still_free _ t t.did.takes.0
  begun _ (Some taken) o t = absurd (none-some taken (sym t.did.unit_after))
  begun r None o t = absurd (both_ways false refl (take_reply (plain_history means t.old) (state_of means t.old) (state_of means t.old).jobs r t.did.takes.answered))

  module _ {N : Type 0} (hears : N → Option Outcome) (w : View (Entry U)) (from to : List (Notice N)) where
    -- the job was begun and carried to its end
    ended : (r : Reply) (taken : TakenUnit U) (job : Job U) (at : Stage) (worked : Worked) → Does means hears v x from from (Opens job.unit (own_refusal means job) at) → EndsJob means hears jmax x w from to job at worked → HasWorked means hears jmax v w from to worked
    ended r taken job at Did opens ends = does_both means hears v x w from from to (Opens job.unit (own_refusal means job) at) (Carries job.unit (own_refusal means job) at stage.Over true) OneJob
        (λ h cs ds a b. let one = one_job job.unit (own_refusal means job) at true h cs ds a b in (one.0, one.1 refl)) opens ends
    ended r taken job at Idle opens ends = absurd ends
    ended r taken job at (JournalFull len) opens ends = (
      does_both means hears v x w from from to (Opens job.unit (own_refusal means job) at) (Carries job.unit (own_refusal means job) at stage.Over false) OneJobAtMost
          (λ h cs ds a b. inr (one_job job.unit (own_refusal means job) at false h cs ds a b).0) opens ends.0,
      stopped_since means jmax v.seen x.seen w.seen (stop.JournalFull len) opens.did.later ends.1,
    )
    ended r taken job at NoMemory opens ends = does_both means hears v x w from from to (Opens job.unit (own_refusal means job) at) (Carries job.unit (own_refusal means job) at stage.Over false) OneJobAtMost
        (λ h cs ds a b. inr (one_job job.unit (own_refusal means job) at false h cs ds a b).0) opens ends

    -- none was listed
    idle : (worked : Worked) (does : List (Entry U) → List (Entry U) → Type 0) (t : TurnOf means jmax v x does) → t.new ≡ t.old → (state_of means t.old).jobs ≡ [] → worked ≡ Idle → w ≡ x → to ≡ from → HasWorked means hears jmax v w from to worked
    idle worked does t same none is same_view same_list = subst (HasWorked means hears jmax v w from to) (sym is)
        (subst (λ y. Does means hears v y from to Nothing × ((state_of means y.seen).jobs ≡ [])) (sym same_view) (
          subst (λ l. Does means hears v x from l Nothing) (sym same_list) (does_none means hears v x from Nothing (λ h. refl) (no_call means jmax v x does t same)),
          ap (λ l. (state_of means l).jobs) (seen_is means jmax v x does t ∙ same) ∙ none,
        ))

    pub has_worked : (r : Reply) (unit : Option (TakenUnit U)) (o : Option UnitId) (worked : Worked) → TakeOf (Ok r) unit o → WorksOn means hears jmax x w from to r unit worked → HasWorked means hears jmax v w from to worked
    has_worked (reply.Start u) (Some taken) o worked t (job, at, k, ends) =
        ended (reply.Start u) taken job at worked (does_open means jmax v x free _ t (reply.Start u) t.did.takes.grown hears u taken refl (its_unit (Ok (reply.Start u)) taken o u t t.did.unit_after) job at k from) ends
    has_worked (reply.Finish u how) (Some taken) o worked t (job, at, k, ends) =
        ended (reply.Finish u how) taken job at worked (does_open means jmax v x free _ t (reply.Finish u how) t.did.takes.grown hears u taken refl (its_unit (Ok (reply.Finish u how)) taken o u t t.did.unit_after) job at k from) ends
    has_worked (reply.Start u) None o worked t k = absurd t.did.unit_after
    has_worked (reply.Finish u how) None o worked t k = absurd t.did.unit_after
    has_worked (reply.Idle held) None o worked t k = idle worked _ t t.did.takes.0 t.did.takes.1 k.0 k.1 k.2
    has_worked _ (Some taken) o worked t k = absurd (none-some taken (sym t.did.unit_after))
    has_worked r None o worked t k = absurd (both_ways false refl (take_reply (plain_history means t.old) (state_of means t.old) (state_of means t.old).jobs r t.did.takes.answered))

  -- a journal that has no places for a take
  take_lacks : (h : List (Entry Meaning)) → IsLegal jmax h → HasPlaces jmax h → is_full jmax (state h) v.number event.Take ≡ true → ((state h).jobs ≡ [] → ⊥) → LacksPlaces jmax h
  take_lacks h legal had full listed = split (cases_Bool (nat_eq ((state h).entries + kept (state h)) jmax))
    where
      within : (state h).entries + kept (state h) ≤ jmax
      within = kept_within jmax h legal had

      split : (nat_eq ((state h).entries + kept (state h)) jmax ≡ true) ⊎ (nat_eq ((state h).entries + kept (state h)) jmax ≡ false) → LacksPlaces jmax h
      split (inl e) = inl (ap (λ n. n + kept (state h)) (sym (entries_are h)) ∙ eqb-true ((state h).entries + kept (state h)) jmax e)
      split (inr e) = inr (omega (arith, entries_are h, within, eqb-false ((state h).entries + kept (state h)) jmax e, ltb-true jmax ((state h).entries + kept (state h) + 2) full), listed)

  -- the take was stopped
  pub take_stopped : {N : Type 0} (hears : N → Option Outcome) (from : List (Notice N)) (st : Stop) (unit : Option (TakenUnit U)) (o : Option UnitId) → TakeOf (Err st) unit o → HasWorked means hears jmax v x from from (worked_stopped st) × IsFree means x
  take_stopped hears from (stop.JournalFull len) unit o t =
      let s = t.did.takes in
      let lawful = t.passed.shows.legal in (
        (
          does_none means hears v x from OneJobAtMost (λ h. inl refl) (no_call means jmax v x _ t s.0.0),
          stopped_now means jmax v.seen x.seen (stop.JournalFull len) (no_call means jmax v x _ t s.0.0).later
              (subst (λ l. IsCause means jmax l (stop.JournalFull len)) (sym (seen_is means jmax v x _ t ∙ s.0.0)) (s.0.1.length, take_lacks (plain_history means t.old) lawful.legal lawful.places s.0.1.full s.1)),
        ),
        still_free _ t s.0.0,
      )
  take_stopped hears from stop.NoMemory unit o t = (does_none means hears v x from OneJobAtMost (λ h. inl refl) (no_call means jmax v x _ t t.did.takes.0), still_free _ t t.did.takes.0)

-- the end of a job that was carried
pub job_ended : {U N : Type 0} (means : U → Meaning) (hears : N → Option Outcome) (jmax : ℕ) (x w : View (Entry U)) (from to : List (Notice N)) (job : Job U) (at : Stage) (st : Option Stop) →
    Does means hears x w from to (Carries job.unit (own_refusal means job) at stage.Over (is_none st)) → IfSome st (WasStopped means jmax x.seen w.seen) → EndsJob means hears jmax x w from to job at (worked_by st)
job_ended means hears jmax x w from to job at None does was = does
job_ended means hears jmax x w from to job at (Some (stop.JournalFull len)) does was = (does, was)
job_ended means hears jmax x w from to job at (Some stop.NoMemory) does was = does

-- One call more of a job that is carried on

module _ {U N : Type 0} (means : U → Meaning) (hears : N → Option Outcome) (jmax : ℕ) (v x w : View (Entry U)) (a b c : List (Notice N)) (job : Job U) (first at : Stage) where
  abbrev Carried : View (Entry U) → List (Notice N) → Stage → Bool → Type 0
  Carried y l st spared = Does means hears v y a l (Carries job.unit (own_refusal means job) first st spared)

  pub carried_on : (spared : Bool) (next : Stage) → Carried x b at spared → (spared ≡ true → is_cut at ≡ false) → Steps means hears jmax x w b c job at (Ok next) → Carried w c next spared
  carried_on spared next so calm step = does_both means hears v x w a b c (Carries job.unit (own_refusal means job) first at spared) (Leads job.unit (own_refusal means job) at next) (Carries job.unit (own_refusal means job) first next spared)
      (λ h cs ds p q. carries_on job.unit (own_refusal means job) first at next spared spared (λ e. (e, calm e)) h cs ds p q) so step.does

  pub carried_stopped : (spared : Bool) (st : Stop) → Carried x b at spared → Steps means hears jmax x w b c job at (Err st) → Carried w c (stopped st) false
  carried_stopped spared st so step = does_both means hears v x w a b c (Carries job.unit (own_refusal means job) first at spared) (Leads job.unit (own_refusal means job) at (stopped st)) (Carries job.unit (own_refusal means job) first (stopped st) false)
      (λ h cs ds p q. carries_on job.unit (own_refusal means job) first at (stopped st) spared false (λ e. absurd (both_ways false refl e)) h cs ds p q) so step.does

-- a stop that was answered before, if one was
pub stopped_still : {U : Type 0} (means : U → Meaning) (jmax : ℕ) (first before now : List (Entry U)) (st : Option Stop) → StartsWith now before → IfSome st (WasStopped means jmax first before) → IfSome st (WasStopped means jmax first now)
stopped_still means jmax first before now None later was = tt
stopped_still means jmax first before now (Some st) later was = stopped_until means jmax first before now st later was

-- One job after the other

no_more : (P : Promise) (h : List (Entry Meaning)) (cs ds : List (ℕ × Entry Meaning)) → P h cs → ds ≡ [] → P h (cs ++ ds)
no_more P h cs ds so none = subst (P h) (sym (append-nil cs) ∙ ap (λ l. cs ++ l) (sym none)) so

one_at_most_more : (h : List (Entry Meaning)) (cs ds : List (ℕ × Entry Meaning)) → Jobs h cs → OneJobAtMost h ds → Jobs h (cs ++ ds)
one_at_most_more h cs ds jobs (inl none) = no_more Jobs h cs ds jobs none
one_at_most_more h cs ds jobs (inr job) = OneMore cs ds jobs job

module _ {U N : Type 0} (means : U → Meaning) (hears : N → Option Outcome) where
  pub jobs_none : (v : View (Entry U)) (a : List (Notice N)) → Does means hears v v a a WholeJobs
  jobs_none v a = does_none means hears v v a WholeJobs (λ h. (None', spare_none)) (nothing_is_done means v)

  module _ (v x w : View (Entry U)) (a b c : List (Notice N)) (so : Does means hears v x a b WholeJobs) where
    pub jobs_more : Does means hears x w b c OneJob → Does means hears v w a c WholeJobs
    jobs_more job = does_both means hears v x w a b c WholeJobs OneJob WholeJobs (λ h cs ds p q. (OneMore cs ds p.0 q.0, spare_both cs ds p.1 q.1)) so job

    pub jobs_idle : Does means hears x w b c Nothing → Does means hears v w a c WholeJobs
    jobs_idle none = does_both means hears v x w a b c WholeJobs Nothing WholeJobs (no_more WholeJobs) so none

    -- where a call was stopped, the job that it was of is one too
    pub jobs_cut : Does means hears x w b c OneJobAtMost → Does means hears v w a c Jobs
    jobs_cut job = does_both means hears v x w a b c WholeJobs OneJobAtMost Jobs (λ h cs ds p q. one_at_most_more h cs ds p.0 q) so job
