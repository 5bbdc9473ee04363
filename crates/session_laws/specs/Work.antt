-- Work that is owed, jobs that are handed out once, and phases that never fall back.
use Rattle.std.specs.Prelude.{◌≡◌, ℕ, ◌≤◌, true, false, List, [], ◌++◌, slice_get, Some}
use Rattle.orc_ids.specs.declared.ids.UnitId.{UnitId}
use Rattle.session_model.specs.Meaning.{Meaning}
use Rattle.session_model.specs.Plain.{UnitRow, kept}
use Rattle.session_model.specs.Query.{is_met}
use Rattle.session_model.specs.Change.{waits_for}
use Rattle.session_model.specs.State.{state, IsOpen}
use Rattle.session_model.specs.History.{IsLegal}
use Rattle.session_model.specs.Owed.{IsOwed}
use Rattle.session_model.specs.declared.entry.Entry.{Entry}
use Rattle.session_model.specs.declared.entry.Event.TheVariants as event
use Rattle.session_model.specs.declared.entry.Finishing.{Finishing}
use Rattle.session_model.specs.declared.entry.Reply.TheVariants as reply
use Rattle.session_model.specs.declared.rows.UnitPhase.{UnitPhase}
use Rattle.session_model.specs.declared.rows.UnitPhase.TheVariants as stage
use Rattle.session_model.specs.declared.rows.Query.{Query}

-- where a query is open, some unit has a listed job or is held
abbrev pub WorkIsOwed : Type 0
WorkIsOwed = (jmax : ℕ) (h : List (Entry Meaning)) (number : ℕ) (q : Query) → IsLegal jmax h → slice_get (state h).queries number ≡ Some q → IsOpen h q → IsOwed (state h)

-- no unit waits for a link query whose end is decided
abbrev pub NoneWaitsForMet : Type 0
NoneWaitsForMet = (h : List (Entry Meaning)) (u number : ℕ) (q : Query) → slice_get (state h).queries number ≡ Some q → q.unit ≡ Some u → is_met (state h).rows q ≡ true → waits_for (state h) u number ≡ false

-- where no job is listed and no unit is held, no query is open
abbrev pub IdleHasNoOpenQuery : Type 0
IdleHasNoOpenQuery = (jmax : ℕ) (h : List (Entry Meaning)) (number : ℕ) (q : Query) → IsLegal jmax h → (state h).jobs ≡ [] → kept (state h) ≡ 0 → slice_get (state h).queries number ≡ Some q → IsOpen h q → ⊥

-- the phases of a unit in their order: its work, the ends of it, and its removal
abbrev pub rank : UnitPhase → ℕ
rank stage.Unclaimed = 0
rank stage.Listed = 1
rank stage.Started = 2
rank stage.Placed = 3
rank stage.Linking = 4
rank stage.Waiting = 5
rank stage.Linked = 6
rank stage.Finishing = 7
rank stage.Done = 8
rank stage.Failed = 8
rank stage.Defunct = 9

-- a unit's phase never falls back
abbrev pub PhasesRise : Type 0
PhasesRise = (jmax : ℕ) (h more : List (Entry Meaning)) → IsLegal jmax (h ++ more) → (u : ℕ) (x : UnitRow) → slice_get (state h).units u ≡ Some x →
    (y : UnitRow) × (slice_get (state (h ++ more)).units u ≡ Some y) × (rank x.phase ≤ rank y.phase)

-- a unit is handed out for its start by at most one entry
abbrev pub StartedOnce : Type 0
StartedOnce = (jmax : ℕ) (h : List (Entry Meaning)) → IsLegal jmax h → (i j : ℕ) (e f : Entry Meaning) (u : UnitId) → slice_get h i ≡ Some e → slice_get h j ≡ Some f →
    e.event ≡ event.Take → f.event ≡ event.Take → e.reply ≡ reply.Start u → f.reply ≡ reply.Start u → i ≡ j

-- and for its finish by at most one
abbrev pub FinishedOnce : Type 0
FinishedOnce = (jmax : ℕ) (h : List (Entry Meaning)) → IsLegal jmax h → (i j : ℕ) (e f : Entry Meaning) (u : UnitId) (a b : Finishing) → slice_get h i ≡ Some e → slice_get h j ≡ Some f →
    e.event ≡ event.Take → f.event ≡ event.Take → e.reply ≡ reply.Finish u a → f.reply ≡ reply.Finish u b → i ≡ j
