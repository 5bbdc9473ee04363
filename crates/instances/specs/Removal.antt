-- What a failure and a removal begin with, and what a removal makes of a row.
use Rattle.std.specs.Prelude.{◌≡◌, ℕ, ◌+◌, ◌<◌, Bool, true, ◌&&◌, ◌==◌, nat_le, nat_lt, not, List, map, slice_get, Some}
use Rattle.std.specs.List.{list_any}
use Rattle.orc_ids.specs.declared.ids.UnitId.{UnitId}
use Rattle.session_model.specs.Change.{hits_failed}
use Rattle.session_model.specs.Plain.{row_test, present_at}
use Rattle.session_model.specs.Reach.{is_ready}
use Rattle.session_model.specs.declared.rows.InstRow.{InstRow}
use Rattle.instances.specs.Table.{is_among}
use Rattle.instances.specs.Sets.{Members, Adds}

-- the unit is among these
abbrev pub is_gone : List UnitId → ℕ → Bool
is_gone gone u = list_any (λ (v : UnitId). v.0 == u) gone

-- a failure begins with present instances that aren't ready
abbrev pub is_unready : List InstRow → ℕ → Bool
is_unready rows i = present_at rows i && not (is_ready rows i)

-- those of the units that are removed
abbrev pub roots : List UnitId → List InstRow → ℕ → Bool
roots gone rows i = row_test (λ r. r.present && is_gone gone r.unit.0) rows i && not (is_ready rows i)

-- an instance whose unit is removed is no longer present
abbrev pub removed_row : List UnitId → InstRow → InstRow
removed_row gone r = record r { present = r.present && not (is_gone gone r.unit.0) }

-- the roots' unready dependants fail, and the units' instances are gone
abbrev pub removed_rows : List UnitId → List InstRow → List InstRow
removed_rows gone rows = map (removed_row gone) (hits_failed (roots gone rows) rows)

-- an instance is added if it is unready, and there is room for it
abbrev pub AddsUnready : ℕ → List InstRow → Members → Members → Type 0
AddsUnready i rows old new = Adds (λ k. i == k && nat_lt k old.places && is_unready rows k) old new

-- those of a span
abbrev pub AddsUnreadySpan : ℕ → ℕ → List InstRow → Members → Members → Type 0
AddsUnreadySpan first count rows old new =
    Adds (λ k. nat_le first k && nat_lt k (first + count) && nat_lt k old.places && is_unready rows k) old new

-- the instances whose rows pass the test are listed, as far as there was room for them
abbrev pub AreListed : (InstRow → Type 0) → List InstRow → Members → Members → Type 0
AreListed test rows old new =
    (k : ℕ) (r : InstRow) → slice_get rows k ≡ Some r → test r → k < old.places → is_among new.items k ≡ true
