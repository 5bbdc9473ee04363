-- The link query of a unit.
use Rattle.std.specs.Prelude.{◌≡◌, ℕ, ◌<◌, Bool, true, false, List, length, slice_get, Some, None}
use Rattle.session_model.specs.Meaning.{Meaning}
use Rattle.session_model.specs.Plain.{UnitRow}
use Rattle.session_model.specs.State.{state}
use Rattle.session_model.specs.History.{IsLegal}
use Rattle.session_model.specs.declared.entry.Entry.{Entry}
use Rattle.session_model.specs.declared.rows.Query.{Query}
use Rattle.session_model.specs.declared.rows.UnitPhase.{UnitPhase}
use Rattle.session_model.specs.declared.rows.UnitPhase.TheVariants as stage

-- the phases of a unit before it waits for its link query
abbrev pub is_unlinked : UnitPhase → Bool
is_unlinked stage.Unclaimed = true
is_unlinked stage.Listed = true
is_unlinked stage.Started = true
is_unlinked stage.Placed = true
is_unlinked stage.Linking = true
is_unlinked _ = false

-- a unit at such a phase has no query
abbrev pub UnlinkedHasNoQuery : Type 0
UnlinkedHasNoQuery = (jmax : ℕ) (h : List (Entry Meaning)) → IsLegal jmax h → (u : ℕ) (x : UnitRow) → slice_get (state h).units u ≡ Some x → is_unlinked x.phase ≡ true → x.query ≡ None

-- a query that links a unit is the one that the unit has, so no other one ever does
abbrev pub UnitIsLinkedOnce : Type 0
UnitIsLinkedOnce = (jmax : ℕ) (h : List (Entry Meaning)) → IsLegal jmax h → (k u : ℕ) (q : Query) (x : UnitRow) → slice_get (state h).queries k ≡ Some q → q.unit ≡ Some u → slice_get (state h).units u ≡ Some x → x.query ≡ Some k

-- and its unit is there
abbrev pub LinkedUnitIsThere : Type 0
LinkedUnitIsThere = (jmax : ℕ) (h : List (Entry Meaning)) → IsLegal jmax h → (k u : ℕ) (q : Query) → slice_get (state h).queries k ≡ Some q → q.unit ≡ Some u → u < length (state h).units
