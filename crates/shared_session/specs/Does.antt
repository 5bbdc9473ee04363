-- What each event does on a session whose history grows from old to new, made by seat s.
use Rattle.std.specs.Prelude.{◌≡◌, ℕ, List, Option, Some, None, Result, Ok, Err, slice_get, IsOk}
use Rattle.orc_ids.specs.declared.ids.SeatNo.{SeatNo}
use Rattle.orc_ids.specs.declared.ids.UnitId.{UnitId}
use Rattle.orc_ids.specs.declared.lookup.Stop.{Stop}
use Rattle.orc_ids.specs.declared.lookup.Stop.TheVariants.{NoMemory}
use Rattle.session_model.specs.Meaning.{Meaning}
use Rattle.session_model.specs.Plain.{UnitRow}
use Rattle.session_model.specs.declared.entry.Entry.{Entry}
use Rattle.session_model.specs.declared.entry.Event.{Event}
use Rattle.session_model.specs.declared.entry.Reply.{Reply}
use Rattle.session_model.specs.declared.entry.Reply.TheVariants as reply
use Rattle.notifiers.specs.declared.notice.Notice.{Notice}
use Rattle.session_steps.specs.Performs.{Performs, Takes, state_of}
use Rattle.session_steps.specs.Taken.{GivesUnit, BindsUnit}
use Rattle.session_steps.specs.declared.jobs.TakenUnit.{TakenUnit}
use Rattle.history_laws.specs.Laws.{TellsBy}

-- the seat of a number
abbrev pub seat : ℕ → SeatNo
seat s = record { 0 = s }

-- the unit that a take makes the seat responsible for
abbrev pub charge : Result Reply Stop → Option UnitId
charge (Ok (reply.Start u)) = Some u
charge (Ok (reply.Finish u how)) = Some u
charge answer = None

module _ {U : Type 0} (means : U → Meaning) (jmax s : ℕ) (old new : List (Entry U)) where
  -- an event that has told the notes of the queries that it settled
  pub record Tells {N : Type 0} (e : Event U) (answer : Result Reply Stop) (fires : List (Notice N)) : Type 0 where
    pub performs : Performs means jmax old new (seat s) e answer
    pub tells : TellsBy means new answer fires

  -- one that never wants memory
  pub record TellsAlways {N : Type 0} (e : Event U) (answer : Result Reply Stop) (fires : List (Notice N)) : Type 0 where
    pub tells : Tells e answer fires
    pub memory : answer ≡ Err NoMemory → ⊥

  -- the seat that holds the unit is answered by an entry
  abbrev pub HolderIsAnswered : UnitId → Result Reply Stop → Type 0
  HolderIsAnswered u answer = (x : UnitRow) → slice_get (state_of means old).units u.0 ≡ Some x → x.seat ≡ Some s → IsOk answer

  -- a take, with the unit of the job and the responsibility for it
  pub record HandsOut (answer : Result Reply Stop) (unit : Option (TakenUnit U)) (responsibility : Option UnitId) : Type 0 where
    pub takes : Takes means jmax old new (seat s) answer
    pub unit_before : GivesUnit means (state_of means old) answer unit
    pub unit_after : GivesUnit means (state_of means new) answer unit
    pub bound : BindsUnit (state_of means new) answer
    pub responsible : responsibility ≡ charge answer
