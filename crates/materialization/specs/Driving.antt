-- A whole job, whose seat goes by the stages.
use Rattle.std.specs.Prelude.{◌≡◌, ℕ, ◌+◌, true, List, [], ◌∷◌, ◌++◌, length, Option, Some, None}
use Rattle.orc_ids.specs.declared.ids.UnitId.{UnitId}
use Rattle.orc_ids.specs.declared.lookup.Stop.{Stop}
use Rattle.session_model.specs.Meaning.{Meaning, Refusal}
use Rattle.session_model.specs.State.{state}
use Rattle.session_model.specs.Calls.{IsJob, numbered_calls, refusal_of}
use Rattle.session_model.specs.History.{IsLegal}
use Rattle.session_model.specs.declared.entry.Entry.{Entry}
use Rattle.session_model.specs.declared.entry.Event.TheVariants as event
use Rattle.session_model.specs.declared.entry.Why.TheVariants as why
use Rattle.session_laws.specs.Holding.{AllOthers}
use Rattle.materialization.specs.Rest.{IsCall, HoldsNone}
use Rattle.materialization.specs.Laws.{IsJobOf, first_of, may_stop}
use Rattle.materialization.specs.Stages.{next, stopped}
use Rattle.materialization.specs.declared.stage.Stage.{Stage}
use Rattle.materialization.specs.declared.stage.Stage.TheVariants as stage

-- The entries from a stage of a seat's job on: those of other seats, and the seat's own, which are the calls of its
-- stages. A stop makes no entry, and a unit with an edge out of range is given up in the place of its emission.
pub data Drives (u : UnitId) (s : ℕ) (refusal : Option Refusal) : Stage → List (Entry Meaning) → Type 0 where
  IsOver : (es : List (Entry Meaning)) → AllOthers s es → Drives u s refusal stage.Over es
  Others : (at : Stage) (e : Entry Meaning) (es : List (Entry Meaning)) → (e.seat.0 ≡ s → ⊥) → Drives u s refusal at es → Drives u s refusal at (e ∷ es)
  Call : (at : Stage) (e : Entry Meaning) (es : List (Entry Meaning)) → e.seat.0 ≡ s → IsCall u at e.event → (at ≡ stage.Emit → refusal ≡ None) →
      Drives u s refusal (next at e.reply) es → Drives u s refusal at (e ∷ es)
  Stops : (at : Stage) (stop : Stop) (es : List (Entry Meaning)) → may_stop at ≡ true → Drives u s refusal (stopped stop) es → Drives u s refusal at es
  Refuses : (r : Refusal) (es : List (Entry Meaning)) → refusal ≡ Some r → Drives u s refusal (stage.Fail (why.Refused r.0 r.1 r.2)) es → Drives u s refusal stage.Emit es

-- The seat's entries from its take on are one job, and in the end it has no unit.
pub record IsDriven (h more : List (Entry Meaning)) (e : Entry Meaning) : Type 0 where
  pub job : IsJob (h ++ e ∷ more) (numbered_calls e.seat.0 (length h + 1) (e ∷ more))
  pub none : HoldsNone (state (h ++ e ∷ more)) e.seat.0

-- a seat without a unit that takes a job, and then goes by the stages
abbrev pub DrivenJobIsOne : Type 0
DrivenJobIsOne = (jmax : ℕ) (h more : List (Entry Meaning)) (e : Entry Meaning) (u : UnitId) → IsLegal jmax (h ++ e ∷ more) → e.event ≡ event.Take → IsJobOf u e.reply → HoldsNone (state h) e.seat.0 →
    Drives u e.seat.0 (refusal_of (state (h ++ e ∷ [])) u) (first_of (state (h ++ e ∷ [])) u e.reply) more → IsDriven h more e
