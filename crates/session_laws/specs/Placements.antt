-- Where units are placed, and which of their names are live, in a legal history.
use Rattle.std.specs.Prelude.{◌≡◌, ℕ, ◌+◌, ◌≤◌, List, ◌++◌, slice_get, Some}
use Rattle.orc_ids.specs.declared.limits.TheConstants.{CODE_START, CODE_END}
use Rattle.session_model.specs.Answer.{Apart}
use Rattle.session_model.specs.Meaning.{Meaning}
use Rattle.session_model.specs.Plain.{UnitRow, placement}
use Rattle.session_model.specs.declared.rows.Range.{Range}
use Rattle.session_model.specs.State.{state}
use Rattle.session_model.specs.History.{IsLegal}
use Rattle.session_model.specs.declared.entry.Entry.{Entry}
use Rattle.session_model.specs.declared.rows.UnitPhase.TheVariants as stage

-- the ranges of units are in code memory, and apart
pub record AreApart (units : List UnitRow) : Type 0 where
  pub inside : (u : ℕ) (x : UnitRow) (r : Range) → slice_get units u ≡ Some x → placement x ≡ Some r → (CODE_START ≤ r.base) × (r.base + r.need ≤ CODE_END)
  pub apart : (u v : ℕ) (x y : UnitRow) (r q : Range) → slice_get units u ≡ Some x → slice_get units v ≡ Some y → (u ≡ v → ⊥) → placement x ≡ Some r → placement y ≡ Some q → Apart r q.base q.need

abbrev pub PlacementsLieApart : Type 0
PlacementsLieApart = (jmax : ℕ) (h : List (Entry Meaning)) → IsLegal jmax h → AreApart (state h).units

-- a unit that a lookup has asked for keeps its live names
abbrev pub LiveNamesStay : Type 0
LiveNamesStay = (jmax : ℕ) (h more : List (Entry Meaning)) → IsLegal jmax (h ++ more) → (u : ℕ) (x : UnitRow) → slice_get (state h).units u ≡ Some x → (x.phase ≡ stage.Unclaimed → ⊥) →
    (y : UnitRow) × (slice_get (state (h ++ more)).units u ≡ Some y) × (y.live ≡ x.live) × (y.meaning ≡ x.meaning)
