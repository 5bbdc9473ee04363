-- How a job goes from stage to stage.
use Rattle.std.specs.Prelude.{◌≡◌, ℕ, ◌+◌, ◌<◌, ◌^◌, ◌⊎◌, Bool, true, false, List, [], ◌++◌, length, map, slice_get, All, Option, Some, None, Result, Ok, Err, IfOk, IfErr, is_some, unwrap_or}
use Rattle.orc_ids.specs.declared.ids.UnitId.{UnitId}
use Rattle.orc_ids.specs.declared.lookup.Outcome.{Outcome}
use Rattle.orc_ids.specs.declared.lookup.Stop.{Stop}
use Rattle.orc_ids.specs.declared.lookup.Stop.TheVariants as stop
use Rattle.session_model.specs.Meaning.{Meaning, Refusal, Bindings, FitsUnit, IsLawful}
use Rattle.session_model.specs.Plain.{Plain, UnitRow, kept}
use Rattle.session_model.specs.State.{plain_history, state}
use Rattle.session_model.specs.declared.entry.Entry.{Entry}
use Rattle.session_model.specs.declared.entry.Event.{Event}
use Rattle.session_model.specs.declared.entry.Event.TheVariants as event
use Rattle.session_model.specs.declared.entry.Finishing.TheVariants as finishing
use Rattle.session_model.specs.declared.entry.Reply.{Reply}
use Rattle.session_model.specs.declared.entry.Reply.TheVariants as reply
use Rattle.session_model.specs.declared.entry.Why.TheVariants as why
use Rattle.notifiers.specs.declared.notice.Notice.{Notice}
use Rattle.turn_lock.specs.declared.view.View.{View}
use Rattle.session_steps.specs.Allowed.{MayEmit, MayFail}
use Rattle.execution_session.specs.Holding.{IsFinished}
use Rattle.session_steps.specs.Performs.{state_of}
use Rattle.session_steps.specs.Taken.{IsUnitOf}
use Rattle.execution_session.specs.declared.holding.Finished.{Finished}
use Rattle.session_steps.specs.declared.jobs.TakenUnit.{TakenUnit}
use Rattle.materialization.specs.Laws.{HasReason}
use Rattle.materialization.specs.Rest.{Has, Rest}
use Rattle.materialization.specs.Stages.{first, next, stopped}
use Rattle.materialization.specs.declared.stage.Stage.{Stage}
use Rattle.materialization.specs.declared.stage.Stage.TheVariants as stage
use Rattle.link_worker.specs.Does.{Does}
use Rattle.link_worker.specs.Units.{own_refusal}
use Rattle.link_worker.specs.declared.job.Job.{Job}

-- a fail for want of memory or of places, which cuts a job: a call of it was stopped
abbrev pub is_cut : Stage → Bool
is_cut (stage.Fail why.NoMemory) = true
is_cut (stage.Fail why.Full) = true
is_cut at = false

abbrev pub is_cut_fail : Event Meaning → Bool
is_cut_fail (event.Fail u why.NoMemory) = true
is_cut_fail (event.Fail u why.Full) = true
is_cut_fail e = false

-- none of the calls cuts a job
abbrev pub SpareAll : List (ℕ × Entry Meaning) → Type 0
SpareAll cs = All (λ c. is_cut_fail c.1.event ≡ false) cs

-- Calls that bring a job from one stage to another: what the second begins comes after them in what the first begins.
pub record Leads (u : UnitId) (refusal : Option Refusal) (at then' : Stage) (h : List (Entry Meaning)) (cs : List (ℕ × Entry Meaning)) : Type 0 where
  pub rest : (es : List (Entry Meaning)) → Rest u refusal then' es → Rest u refusal at (map (λ c. c.1) cs ++ es)
  pub spare : is_cut at ≡ false → SpareAll cs

-- the stage after a call, which a stop ends
abbrev pub after : Result Stage Stop → Stage
after (Ok at) = at
after (Err stop) = stopped stop

-- the stage that an answer leads to, or the stop
abbrev pub next_by : Stage → Result Reply Stop → Result Stage Stop
next_by at (Ok r) = Ok (next at r)
next_by at (Err stop) = Err stop

-- the journal has no place left, or one alone while a job is listed
abbrev pub LacksPlaces : ℕ → List (Entry Meaning) → Type 0
LacksPlaces jmax h = (length h + kept (state h) ≡ jmax) ⊎ ((length h + kept (state h) + 1 ≡ jmax) × ((state h).jobs ≡ [] → ⊥))

module _ {U : Type 0} (means : U → Meaning) where
  -- the job has the bindings of its unit
  abbrev pub IsBoundTo : Plain → Job U → Type 0
  IsBoundTo m job = (x : UnitRow) → slice_get m.units job.unit.0 ≡ Some x → x.bound ≡ Some job.bound

  -- What is made of the unit may be emitted, and an edge that is out of range is a reason to give the unit up.
  pub record MayFinish (jmax : ℕ) (h : List (Entry U)) (s : ℕ) (job : Job U) : Type 0 where
    pub fits : FitsUnit (means job.taken.share) job.taken.live job.bound job.taken.instances
    pub low : unwrap_or job.taken.base 0 < 2 ^ 62
    pub emits : (made : Finished) → IsFinished (means job.taken.share) job.taken.live (unwrap_or job.taken.base 0) job.bound job.taken.instances made → MayEmit (state_of means h) s job.unit made.groups made.bytes
    pub fails : (r : Refusal) → own_refusal means job ≡ Some r → MayFail jmax (plain_history means h) (state_of means h) s job.unit (why.Refused r.0 r.1 r.2)

  -- The job is that of an alias, which is bound and has no address yet.
  pub record MayResolve (m : Plain) (job : Job U) : Type 0 where
    pub its : IsUnitOf means m job.unit job.taken
    pub bound : IsBoundTo m job
    pub alias : is_some (means job.taken.share).source ≡ true
    pub lawful : IsLawful (means job.taken.share)
    pub fits : FitsUnit (means job.taken.share) job.taken.live job.bound job.taken.instances
    pub unbased : job.taken.base ≡ None

  -- what a job has to know of its unit at a stage
  abbrev pub Knows : ℕ → List (Entry U) → ℕ → Job U → Stage → Type 0
  Knows jmax h s job stage.Place = IsUnitOf means (state_of means h) job.unit job.taken
  Knows jmax h s job stage.ResolveAlias = MayResolve (state_of means h) job
  Knows jmax h s job stage.Emit = MayFinish jmax h s job
  Knows jmax h s job at = Unit {0}

  -- the pass has the job at a stage, or none when it is over
  pub record IsJobAt (jmax : ℕ) (v : View (Entry U)) (job : Job U) (at : Stage) : Type 0 where
    pub has : Has (state_of means v.seen) v.number job.unit.0 at
    pub reason : HasReason jmax (plain_history means v.seen) v.number job.unit at
    pub knows : Knows jmax v.seen v.number job at

  -- what a stop says of the history that it was answered at
  abbrev pub IsCause : ℕ → List (Entry U) → Stop → Type 0
  IsCause jmax h (stop.JournalFull len) = (len ≡ length h) × LacksPlaces jmax (plain_history means h)
  IsCause jmax h stop.NoMemory = Unit {0}

  -- A call of a job's stage: it brings the pass to the next stage.
  pub record Steps {N : Type 0} (heard : N → Option Outcome) (jmax : ℕ) (v w : View (Entry U)) (old new : List (Notice N)) (job : Job U) (at : Stage) (answer : Result Stage Stop) : Type 0 where
    pub does : Does means heard v w old new (Leads job.unit (own_refusal means job) at (after answer))
    pub job_at : IsJobAt jmax w job (after answer)
    pub spares : IfOk answer (λ next. is_cut next ≡ false)
    pub cause : IfErr answer (IsCause jmax w.seen)

-- the unit of a job, and the bindings that come with it
abbrev pub unit_in : Reply → Option UnitId
unit_in (reply.Start u) = Some u
unit_in (reply.Finish u how) = Some u
unit_in r = None

abbrev pub bound_in : Reply → Bindings
bound_in (reply.Finish u (finishing.Bound bound)) = bound
bound_in r = []

-- a job that a take's reply handed out, with its first stage
pub record IsHandedOut {U : Type 0} (means : U → Meaning) (r : Reply) (taken : TakenUnit U) (job : Job U) (at : Stage) : Type 0 where
  pub unit : unit_in r ≡ Some job.unit
  pub its : job.taken ≡ taken
  pub bound : job.bound ≡ bound_in r
  pub first : at ≡ first r (is_some (means taken.share).source) (is_some ((means taken.share).shape taken.live))
  pub lawful : IsLawful (means taken.share)
