-- A job's calls are right ones, and its entries those of one job.
use Rattle.std.specs.Prelude.{◌≡◌, ◌≢◌, ℕ, Bool, true, false, List, [], ◌∷◌, ◌++◌, Option, Some, None, is_some}
use Rattle.orc_ids.specs.declared.ids.UnitId.{UnitId}
use Rattle.orc_ids.specs.declared.lookup.Stop.{Stop}
use Rattle.session_model.specs.Meaning.{Meaning, Refusal}
use Rattle.session_model.specs.Plain.{Plain, is_alias, unit_shape}
use Rattle.session_model.specs.State.{state}
use Rattle.session_model.specs.Calls.{AfterTake, IsCut, refusal_of, unit_test}
use Rattle.session_model.specs.History.{IsLegal, HasPlaces, is_full}
use Rattle.session_model.specs.declared.entry.Entry.{Entry}
use Rattle.session_model.specs.declared.entry.Event.{Event}
use Rattle.session_model.specs.declared.entry.Event.TheVariants as event
use Rattle.session_model.specs.declared.entry.Reply.{Reply}
use Rattle.session_model.specs.declared.entry.Reply.TheVariants as reply
use Rattle.session_model.specs.declared.entry.Why.{Why}
use Rattle.session_model.specs.declared.entry.Why.TheVariants as why
use Rattle.session_laws.specs.Holding.{AllOthers}
use Rattle.session_steps.specs.Allowed.{MayFail}
use Rattle.materialization.specs.Stages.{first, next, stopped}
use Rattle.materialization.specs.Rest.{IsCall, Has, HoldsNone, Rest}
use Rattle.materialization.specs.declared.stage.Stage.{Stage}
use Rattle.materialization.specs.declared.stage.Stage.TheVariants as stage

-- a stage that gives the unit up has a cause for it
abbrev pub HasReason : ℕ → List (Entry Meaning) → ℕ → UnitId → Stage → Type 0
HasReason jmax h s u (stage.Fail cause) = MayFail jmax h (state h) s u cause
HasReason jmax h s u at = Unit {0}

-- the unit of a take's reply
abbrev pub IsJobOf : UnitId → Reply → Type 0
IsJobOf u (reply.Start v) = v ≡ u
IsJobOf u (reply.Finish v how) = v ≡ u
IsJobOf u r = ⊥

-- A seat without a unit took a job: it has the unit at its first stage, and what that begins is the rest of a job.
pub record Begins (jmax : ℕ) (h : List (Entry Meaning)) (e : Entry Meaning) (u : UnitId) (at : Stage) : Type 0 where
  pub has : Has (state (h ++ e ∷ [])) e.seat.0 u.0 at
  pub reason : HasReason jmax (h ++ e ∷ []) e.seat.0 u at
  pub goes : at ≢ stage.Over
  pub job : (es : List (Entry Meaning)) → Rest u (refusal_of (state (h ++ e ∷ [])) u) at es → AfterTake (state (h ++ e ∷ [])) e.reply es

abbrev pub first_of : Plain → UnitId → Reply → Stage
first_of m u r = first r (unit_test is_alias m u) (unit_test (λ x. is_some (unit_shape x)) m u)

abbrev pub JobBegins : Type 0
JobBegins = (jmax : ℕ) (h : List (Entry Meaning)) (e : Entry Meaning) (u : UnitId) → IsLegal jmax (h ++ e ∷ []) → e.event ≡ event.Take → IsJobOf u e.reply → HoldsNone (state h) e.seat.0 →
    Begins jmax h e u (first_of (state (h ++ e ∷ [])) u e.reply)

-- The call of a stage was answered: the seat has the unit at the next stage, or none when the job is over; and the entry
-- with what the next stage begins is what this one begins.
pub record GoesOn (jmax : ℕ) (h : List (Entry Meaning)) (e : Entry Meaning) (u : UnitId) (at then' : Stage) : Type 0 where
  pub has : Has (state (h ++ e ∷ [])) e.seat.0 u.0 then'
  pub reason : HasReason jmax (h ++ e ∷ []) e.seat.0 u then'
  pub rest : (refusal : Option Refusal) → (at ≡ stage.Emit → refusal ≡ None) → (es : List (Entry Meaning)) → Rest u refusal then' es → Rest u refusal at (e ∷ es)

abbrev pub JobGoesOn : Type 0
JobGoesOn = (jmax : ℕ) (h : List (Entry Meaning)) (e : Entry Meaning) (u : UnitId) (at : Stage) → IsLegal jmax (h ++ e ∷ []) →
    Has (state h) e.seat.0 u.0 at → IsCall u at e.event → GoesOn jmax h e u at (next at e.reply)

-- What other seats do leaves a job where it is.
pub record IsLeft (jmax : ℕ) (h more : List (Entry Meaning)) (s : ℕ) (u : UnitId) (at : Stage) : Type 0 where
  pub has : Has (state (h ++ more)) s u.0 at
  pub reason : HasReason jmax (h ++ more) s u at

abbrev pub OthersLeaveAJob : Type 0
OthersLeaveAJob = (jmax : ℕ) (h more : List (Entry Meaning)) (s : ℕ) (u : UnitId) (at : Stage) → IsLegal jmax (h ++ more) → HasPlaces jmax (h ++ more) → AllOthers s more →
    Has (state h) s u.0 at → HasReason jmax h s u at → IsLeft jmax h more s u at

-- the stages whose call may be stopped
abbrev pub may_stop : Stage → Bool
may_stop (stage.Fail cause) = false
may_stop stage.Over = false
may_stop at = true

-- a unit may be given up at any stage of its job
abbrev pub MayGiveUp : Type 0
MayGiveUp = (m : Plain) (s u : ℕ) (at : Stage) (cause : Why) → at ≢ stage.Over → Has m s u at → Has m s u (stage.Fail cause)

-- what a stop begins is the one fail of a job that is cut
abbrev pub StopCutsJob : Type 0
StopCutsJob = (u : UnitId) (refusal : Option Refusal) (stop : Stop) (es : List (Entry Meaning)) → Rest u refusal (stopped stop) es → IsCut u es

-- a job that is stopped ends with one fail
abbrev pub StoppedJobFails : Type 0
StoppedJobFails = (u : UnitId) (refusal : Option Refusal) (at : Stage) (es : List (Entry Meaning)) → may_stop at ≡ true → IsCut u es → Rest u refusal at es

-- a unit with an edge out of range is given up in the place of its emission
abbrev pub RefusedEdgeFails : Type 0
RefusedEdgeFails = (u : UnitId) (r : Refusal) (es : List (Entry Meaning)) → Rest u (Some r) (stage.Fail (why.Refused r.0 r.1 r.2)) es → Rest u (Some r) stage.Emit es

-- a journal without a place for a call that wants one is full
abbrev pub FullIsCause : Type 0
FullIsCause = (jmax : ℕ) (h : List (Entry Meaning)) (s : ℕ) (u : UnitId) (at : Stage) (e : Event Meaning) → IsLegal jmax h → HasPlaces jmax h → IsCall u at e → is_full jmax (state h) s e ≡ true →
    MayFail jmax h (state h) s u why.Full
