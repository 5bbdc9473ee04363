-- What other seats can do to a unit that a seat holds.
use Rattle.std.specs.Prelude.{◌≡◌, ℕ, true, false, ◌⊎◌, ◌↔◌, List, ◌++◌, slice_get, Some}
use Rattle.session_model.specs.Meaning.{Meaning}
use Rattle.session_model.specs.Plain.{Plain, UnitRow, is_defunct}
use Rattle.session_model.specs.State.{state}
use Rattle.session_model.specs.History.{IsLegal}
use Rattle.session_model.specs.declared.entry.Entry.{Entry}
use Rattle.session_model.specs.declared.rows.InstRow.{InstRow}
use Rattle.session_model.specs.declared.rows.UnitPhase.TheVariants as stage

-- a unit that is gone stays gone
abbrev pub DefunctStays : Type 0
DefunctStays = (jmax : ℕ) (h more : List (Entry Meaning)) → IsLegal jmax (h ++ more) → (u : ℕ) (x : UnitRow) → slice_get (state h).units u ≡ Some x → x.phase ≡ stage.Defunct →
    (y : UnitRow) × (slice_get (state (h ++ more)).units u ≡ Some y) × (y.phase ≡ stage.Defunct)

-- the present instances of the unit are the same ones, exactly as they were
abbrev pub OwnSame : List InstRow → List InstRow → ℕ → Type 0
OwnSame rows new u = (i : ℕ) (r : InstRow) → r.present ≡ true → r.unit.0 ≡ u → (slice_get rows i ≡ Some r) ↔ (slice_get new i ≡ Some r)

-- The unit is held as it was. It is gone, or it is as it was but for its tracker, with its instances.
pub record IsKept (m n : Plain) (u : ℕ) (x : UnitRow) : Type 0 where
  pub unit : UnitRow
  pub there : slice_get n.units u ≡ Some unit
  pub seat : unit.seat ≡ x.seat
  pub how : (unit.phase ≡ stage.Defunct) ⊎ ((unit ≡ record x { tracker = unit.tracker }) × OwnSame m.rows n.rows u)

-- no entry is of this seat
abbrev pub AllOthers : ℕ → List (Entry Meaning) → Type 0
AllOthers s h = (k : ℕ) (e : Entry Meaning) → slice_get h k ≡ Some e → e.seat.0 ≡ s → ⊥

-- Entries of other seats leave a unit that a seat holds as it is, but for a removal; and they leave it
-- with its seat.
abbrev pub HeldStays : Type 0
HeldStays = (jmax : ℕ) (h more : List (Entry Meaning)) → IsLegal jmax (h ++ more) → (s u : ℕ) (x : UnitRow) → slice_get (state h).units u ≡ Some x → x.seat ≡ Some s → is_defunct x.phase ≡ false →
    AllOthers s more → IsKept (state h) (state (h ++ more)) u x

-- a unit that is gone stays with the seat that holds it, whatever other seats do
abbrev pub GoneStaysHeld : Type 0
GoneStaysHeld = (jmax : ℕ) (h more : List (Entry Meaning)) → IsLegal jmax (h ++ more) → (s u : ℕ) (x : UnitRow) → slice_get (state h).units u ≡ Some x → x.seat ≡ Some s → x.phase ≡ stage.Defunct →
    AllOthers s more → (y : UnitRow) × (slice_get (state (h ++ more)).units u ≡ Some y) × (y.phase ≡ stage.Defunct) × (y.seat ≡ Some s)
