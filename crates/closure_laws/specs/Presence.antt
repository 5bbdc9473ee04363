-- An instance that a lookup has asked for is never replaced.
use Rattle.std.specs.Prelude.{◌≡◌, ℕ, true, false, ◌⊎◌, List, ◌++◌, slice_get, Some}
use Rattle.session_model.specs.Meaning.{Meaning}
use Rattle.session_model.specs.Plain.{Plain, UnitRow, is_unsearched, present_at}
use Rattle.session_model.specs.State.{state}
use Rattle.session_model.specs.History.{IsLegal}
use Rattle.session_model.specs.declared.entry.Entry.{Entry}
use Rattle.session_model.specs.declared.rows.InstRow.{InstRow}
use Rattle.session_model.specs.declared.rows.UnitPhase.TheVariants as stage

-- the instance is present, or the unit was removed
abbrev pub IsPresentOrRemoved : Plain → ℕ → ℕ → Type 0
IsPresentOrRemoved m i u = (present_at m.rows i ≡ true) ⊎ ((x : UnitRow) × (slice_get m.units u ≡ Some x) × (x.phase ≡ stage.Defunct))

-- a present instance that was searched stays present, until its unit is removed
abbrev pub SearchedStayPresent : Type 0
SearchedStayPresent = (jmax : ℕ) (h more : List (Entry Meaning)) → IsLegal jmax (h ++ more) → (i : ℕ) (r : InstRow) → slice_get (state h).rows i ≡ Some r → r.present ≡ true → is_unsearched r.phase ≡ false →
    IsPresentOrRemoved (state (h ++ more)) i r.unit.0
