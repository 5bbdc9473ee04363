-- Where the instances of a unit stand.
use Rattle.std.specs.Prelude.{◌≡◌, ℕ, ◌+◌, ◌<◌, ◌≤◌, List, length, slice_get, Some}
use Rattle.orc_ids.specs.declared.limits.TheConstants.{INSTANCE_LIMIT}
use Rattle.session_model.specs.declared.rows.InstRow.{InstRow}
use Rattle.instances.specs.declared.span.Span.{Span}

-- the unit's instances are those from `first` on, so many
pub record IsSpan (rows : List InstRow) (u first count : ℕ) : Type 0 where
  pub inside : first + count ≤ length rows
  pub its : (i : ℕ) (r : InstRow) → slice_get rows i ≡ Some r → first ≤ i → i < first + count → r.unit.0 ≡ u
  pub only : (i : ℕ) (r : InstRow) → slice_get rows i ≡ Some r → r.unit.0 ≡ u → (first ≤ i) × (i < first + count)

-- each unit's instances stand together, and each instance has a unit
pub record AreSpanned (rows : List InstRow) (its : List Span) : Type 0 where
  pub few : length rows ≤ INSTANCE_LIMIT
  pub together : (u : ℕ) (s : Span) → slice_get its u ≡ Some s → IsSpan rows u s.first s.count
  pub there : (i : ℕ) (r : InstRow) → slice_get rows i ≡ Some r → r.unit.0 < length its
