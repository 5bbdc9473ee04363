-- What was done with one job, or why with none.
use Rattle.std.specs.Prelude.{◌≡◌, ℕ, ◌⊎◌, Bool, true, false, List, [], ◌++◌, length, map, Option, Some, None, is_some}
use Rattle.orc_ids.specs.declared.ids.UnitId.{UnitId}
use Rattle.orc_ids.specs.declared.lookup.Outcome.{Outcome}
use Rattle.orc_ids.specs.declared.lookup.Stop.{Stop}
use Rattle.orc_ids.specs.declared.lookup.Stop.TheVariants as stop
use Rattle.session_model.specs.Calls.{IsJob}
use Rattle.session_model.specs.Meaning.{Meaning, Refusal}
use Rattle.session_model.specs.declared.entry.Entry.{Entry}
use Rattle.session_model.specs.declared.entry.Reply.{Reply}
use Rattle.notifiers.specs.declared.notice.Notice.{Notice}
use Rattle.turn_lock.specs.declared.view.View.{View}
use Rattle.turn_lock.specs.Lists.{StartsWith}
use Rattle.session_steps.specs.Performs.{state_of}
use Rattle.session_steps.specs.declared.jobs.TakenUnit.{TakenUnit}
use Rattle.materialization.specs.Rest.{HoldsNone, Rest}
use Rattle.materialization.specs.declared.stage.Stage.{Stage}
use Rattle.materialization.specs.declared.stage.Stage.TheVariants as stage
use Rattle.shared_session.specs.Did.{Nothing, Promise}
use Rattle.link_worker.specs.Does.{Does}
use Rattle.link_worker.specs.Jobs.{IsCause, IsHandedOut, IsJobAt, SpareAll, is_cut, unit_in}
use Rattle.link_worker.specs.Units.{own_refusal}
use Rattle.link_worker.specs.declared.job.Job.{Job}
use Rattle.link_worker.specs.declared.work.Worked.{Worked}
use Rattle.link_worker.specs.declared.work.Worked.TheVariants.{Did, Idle, JournalFull, NoMemory}

-- Calls that bring a job from one stage to another; where none was stopped, none gives the unit up for want of memory or of places.
pub record Carries (u : UnitId) (refusal : Option Refusal) (at then' : Stage) (spared : Bool) (h : List (Entry Meaning)) (cs : List (ℕ × Entry Meaning)) : Type 0 where
  pub rest : (es : List (Entry Meaning)) → Rest u refusal then' es → Rest u refusal at (map (λ c. c.1) cs ++ es)
  pub spare : spared ≡ true → SpareAll cs

-- The call that begins a job: what its first stage begins comes after it.
pub record Opens (u : UnitId) (refusal : Option Refusal) (at : Stage) (h : List (Entry Meaning)) (cs : List (ℕ × Entry Meaning)) : Type 0 where
  pub job : (ds : List (ℕ × Entry Meaning)) → Rest u refusal at (map (λ d. d.1) ds) → IsJob h (cs ++ ds)
  pub spare : SpareAll cs

-- the calls of one job, which wasn't cut
abbrev pub OneJob : Promise
OneJob h cs = IsJob h cs × SpareAll cs

-- those of one job, or none
abbrev pub OneJobAtMost : Promise
OneJobAtMost h cs = (cs ≡ []) ⊎ IsJob h cs

-- the calls of jobs, one job after the other
pub data Jobs (h : List (Entry Meaning)) : List (ℕ × Entry Meaning) → Type 0 where
  None' : Jobs h []
  OneMore : (before job : List (ℕ × Entry Meaning)) → Jobs h before → IsJob h job → Jobs h (before ++ job)

-- those of jobs none of which was cut
abbrev pub WholeJobs : Promise
WholeJobs h cs = Jobs h cs × SpareAll cs

-- what was done where a call was stopped, and by a job in which one was, or none
abbrev pub worked_stopped : Stop → Worked
worked_stopped (stop.JournalFull len) = JournalFull len
worked_stopped stop.NoMemory = NoMemory

abbrev pub worked_by : Option Stop → Worked
worked_by (Some st) = worked_stopped st
worked_by None = Did

module _ {U : Type 0} (means : U → Meaning) where
  -- the pass, which had seen the history before, was answered this stop before it had seen the history now
  abbrev pub WasStopped : ℕ → List (Entry U) → List (Entry U) → Stop → Type 0
  WasStopped jmax before now st = (h : List (Entry U)) × StartsWith now h × StartsWith h before × IsCause means jmax h st

  -- the seat holds no unit
  abbrev pub IsFree : View (Entry U) → Type 0
  IsFree v = HoldsNone (state_of means v.seen) v.number

  module _ {N : Type 0} (heard : N → Option Outcome) (jmax : ℕ) (v w : View (Entry U)) (old new : List (Notice N)) where
    -- one job was done; or none was listed; or a call was stopped, and the job that it was of, if any, was ended
    abbrev pub HasWorked : Worked → Type 0
    HasWorked Did = Does means heard v w old new OneJob
    HasWorked Idle = Does means heard v w old new Nothing × ((state_of means w.seen).jobs ≡ [])
    HasWorked (JournalFull len) = Does means heard v w old new OneJobAtMost × WasStopped jmax v.seen w.seen (stop.JournalFull len)
    HasWorked NoMemory = Does means heard v w old new OneJobAtMost

    -- jobs were done, until the clients had ended, and none was cut; or until a call was stopped
    abbrev pub HasAssisted : Worked → Type 0
    HasAssisted Did = ⊥
    HasAssisted Idle = Does means heard v w old new WholeJobs
    HasAssisted (JournalFull len) = Does means heard v w old new Jobs × WasStopped jmax v.seen w.seen (stop.JournalFull len)
    HasAssisted NoMemory = Does means heard v w old new Jobs

  -- what a pass knows after a take that was answered so, with this unit: it has the job at its first stage; without a unit it has none
  pub record HasFirst (jmax : ℕ) (v : View (Entry U)) (reply : Reply) (taken : TakenUnit U) : Type 0 where
    pub job_is : is_some (unit_in reply) ≡ true
    pub flags : length taken.live ≡ length (means taken.share).offers
    pub at_first : (job : Job U) (at : Stage) → IsHandedOut means reply taken job at → IsJobAt means jmax v job at × (is_cut at ≡ false)

  abbrev pub HasBegun : ℕ → View (Entry U) → Reply → Option (TakenUnit U) → Type 0
  HasBegun jmax v reply (Some taken) = HasFirst jmax v reply taken
  HasBegun jmax v reply None = IsFree v

  module _ {N : Type 0} (heard : N → Option Outcome) (jmax : ℕ) (v w : View (Entry U)) (old new : List (Notice N)) where
    -- the calls carry the job to its end
    abbrev pub Ends : Job U → Stage → Bool → Type 0
    Ends job at spared = Does means heard v w old new (Carries job.unit (own_refusal means job) at stage.Over spared)

    abbrev pub EndsJob : Job U → Stage → Worked → Type 0
    EndsJob job at Did = Ends job at true
    EndsJob job at Idle = ⊥
    EndsJob job at (JournalFull len) = Ends job at false × WasStopped jmax v.seen w.seen (stop.JournalFull len)
    EndsJob job at NoMemory = Ends job at false

    -- a job that a take handed out was carried to its end; where it handed out none, nothing was done
    abbrev pub WorksOn : Reply → Option (TakenUnit U) → Worked → Type 0
    WorksOn reply (Some taken) worked = (job : Job U) × (at : Stage) × IsHandedOut means reply taken job at × EndsJob job at worked
    WorksOn reply None worked = (worked ≡ Idle) × (w ≡ v) × (new ≡ old)
