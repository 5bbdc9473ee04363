-- The instances of a session, and what each change of a session makes of them.
use Rattle.std.specs.Prelude.{◌≡◌, ℕ, ◌+◌, Bool, true, false, ◌&&◌, ◌==◌, not, List, [], ◌∷◌, slice_get, option_map, if◌then◌else◌}
use Rattle.std.specs.List.{list_any}
use Rattle.orc_ids.specs.declared.flags.SymFlags.{SymFlags}
use Rattle.orc_ids.specs.declared.ids.InstId.{InstId}
use Rattle.orc_ids.specs.declared.ids.NameId.{NameId}
use Rattle.session_model.specs.Change.{new_row}
use Rattle.session_model.specs.declared.rows.InstRow.{InstRow}
use Rattle.session_model.specs.declared.rows.Phase.TheVariants as phase

-- the instances by number, how many units they are of, and for how many more of each there is room
pub record Table : Type 0 where
  pub rows : List InstRow
  pub units : ℕ
  pub spare : ℕ
  pub spare_units : ℕ

-- there are as many units as before, and as much room
abbrev pub HasSameRooms : Table → Table → Type 0
HasSameRooms old new = (new.units ≡ old.units) × (new.spare ≡ old.spare) × (new.spare_units ≡ old.spare_units)

-- the rows of the names that stay, in order; the first is offered at k
abbrev pub fresh_rows : ℕ → ℕ → ℕ → List (NameId × SymFlags) → List Bool → List InstRow
fresh_rows d u k (offer ∷ offers) (true ∷ live) = new_row d u k offer ∷ fresh_rows d u (k + 1) offers live
fresh_rows d u k (offer ∷ offers) (false ∷ live) = fresh_rows d u (k + 1) offers live
fresh_rows d u k _ _ = []

-- the instance is among these
abbrev pub is_among : List InstId → ℕ → Bool
is_among is i = list_any (λ (j : InstId). j.0 == i) is

-- an instance that another one took the name of is no longer present
abbrev pub replaced_row : List InstId → ℕ → InstRow → InstRow
replaced_row gone i r = record r { present = r.present && not (is_among gone i) }

-- an instance that is hit will never be ready
abbrev pub failed_row : List InstId → ℕ → InstRow → InstRow
failed_row hit i r = record r { phase = if is_among hit i then phase.Failed else r.phase }

-- an instance whose unit is removed is no longer present
abbrev pub removed_row : ℕ → InstRow → InstRow
removed_row u r = record r { present = r.present && not (r.unit.0 == u) }

-- each row is changed by a function of its number, and there are as many as before
abbrev pub AreChanged : (ℕ → InstRow → InstRow) → List InstRow → List InstRow → Type 0
AreChanged change old new = (i : ℕ) → slice_get new i ≡ option_map (change i) (slice_get old i)
