-- The instances of a session with their readiness, and which of them changed.
use Rattle.std.specs.Prelude.{◌≡◌, ℕ, ◌<◌, ◌≤◌, true, false, List, length, slice_get, Some}
use Rattle.orc_ids.specs.declared.ids.InstId.{InstId}
use Rattle.session_model.specs.Plain.{is_owned, is_emitted}
use Rattle.session_model.specs.Query.{stand_at}
use Rattle.session_model.specs.declared.rows.InstRow.{InstRow}
use Rattle.instances.specs.Table.{is_among}

-- the instances by number; how many units they are of; those that changed; for how many instances there is
-- room in all, and for how many more units
pub record Graph : Type 0 where
  pub rows : List InstRow
  pub units : ℕ
  pub changed : List InstId
  pub places : ℕ
  pub spare_units : ℕ

-- there are as many units as before, and as much room
abbrev pub HasSameRooms : Graph → Graph → Type 0
HasSameRooms old new = (new.units ≡ old.units) × (new.places ≡ old.places) × (new.spare_units ≡ old.spare_units)

-- every instance that now stands otherwise is among those that changed, and so are those that changed before
pub record Tells (old new : Graph) : Type 0 where
  pub stands : (i : ℕ) → i < length old.rows → is_among new.changed i ≡ false → stand_at new.rows i ≡ stand_at old.rows i
  pub kept : (i : ℕ) → is_among old.changed i ≡ true → is_among new.changed i ≡ true

-- two changes, one after the other, of which the first leaves no instance out
abbrev pub TellsOn : Type 0
TellsOn = (a b c : Graph) → length a.rows ≤ length b.rows → Tells a b → Tells b c → Tells a c

-- none of the unit's instances is emitted
abbrev pub NoneEmitted : ℕ → List InstRow → Type 0
NoneEmitted u rows = (i : ℕ) (r : InstRow) → slice_get rows i ≡ Some r → is_owned u r ≡ true → is_emitted r.phase ≡ false

-- each present instance of the unit is one of so many names
abbrev pub OffersBelow : ℕ → ℕ → List InstRow → Type 0
OffersBelow u n rows = (i : ℕ) (r : InstRow) → slice_get rows i ≡ Some r → is_owned u r ≡ true → r.offer < n
