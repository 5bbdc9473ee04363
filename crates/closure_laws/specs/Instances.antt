-- The instances of a unit, and that what a session decides of it fits it.
use Rattle.std.specs.Prelude.{◌≡◌, ℕ, ◌+◌, Bool, true, false, List, [], ◌∷◌, length, slice_get, map, Some, if◌then◌else◌}
use Rattle.std.specs.Option.{option_map_or}
use Rattle.orc_ids.specs.declared.ids.InstId.{InstId}
use Rattle.session_model.specs.Meaning.{Meaning, Bindings, FitsUnit}
use Rattle.session_model.specs.Plain.{UnitRow, own_rows, is_defunct}
use Rattle.session_model.specs.State.{state}
use Rattle.session_model.specs.History.{IsLegal}
use Rattle.session_model.specs.declared.entry.Entry.{Entry}
use Rattle.session_model.specs.declared.rows.InstRow.{InstRow}

-- the places of the live names, the first name being at k
abbrev pub live_places : ℕ → List Bool → List ℕ
live_places k [] = []
live_places k (flag ∷ flags) = if flag then k ∷ live_places (k + 1) flags else live_places (k + 1) flags

-- which of its unit's names an instance is
abbrev pub offer_at : List InstRow → InstId → ℕ
offer_at rows i = option_map_or (λ (r : InstRow). r.offer) (slice_get rows i.0) 0

-- a unit has one instance for each of its live names, in order
pub record AreLive (rows : List InstRow) (u : ℕ) (x : UnitRow) : Type 0 where
  pub flags : length x.live ≡ length x.meaning.offers
  pub instances : map (offer_at rows) (own_rows u 0 rows) ≡ live_places 0 x.live

-- so it is with each unit that isn't gone
abbrev pub InstancesAreLive : Type 0
InstancesAreLive = (jmax : ℕ) (h : List (Entry Meaning)) → IsLegal jmax h → (u : ℕ) (x : UnitRow) → slice_get (state h).units u ≡ Some x → is_defunct x.phase ≡ false → AreLive (state h).rows u x

-- each present instance is what its unit offers at its place
abbrev pub InstancesAreOffered : Type 0
InstancesAreOffered = (jmax : ℕ) (h : List (Entry Meaning)) → IsLegal jmax h → (i : ℕ) (r : InstRow) (x : UnitRow) → slice_get (state h).rows i ≡ Some r → r.present ≡ true → slice_get (state h).units r.unit.0 ≡ Some x → slice_get x.meaning.offers r.offer ≡ Some (r.name, r.flags)

-- the names, bindings and instances that a unit has fit it
abbrev pub UnitsFit : Type 0
UnitsFit = (jmax : ℕ) (h : List (Entry Meaning)) → IsLegal jmax h → (u : ℕ) (x : UnitRow) (b : Bindings) → slice_get (state h).units u ≡ Some x → is_defunct x.phase ≡ false → x.bound ≡ Some b → FitsUnit x.meaning x.live b (own_rows u 0 (state h).rows)
