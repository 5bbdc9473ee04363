-- The journal's rule of places.
use Rattle.std.specs.Prelude.{◌≡◌, ℕ, ◌+◌, ◌≤◌, true, false, List, ◌++◌, slice_get, Some}
use Rattle.orc_ids.specs.declared.ids.UnitId.{UnitId}
use Rattle.session_model.specs.Meaning.{Meaning}
use Rattle.session_model.specs.Plain.{Plain, UnitRow, kept}
use Rattle.session_model.specs.State.{state}
use Rattle.session_model.specs.History.{IsLegal, HasPlaces, is_full, places}
use Rattle.session_model.specs.declared.entry.Entry.{Entry}
use Rattle.session_model.specs.declared.entry.Event.{Event}
use Rattle.session_model.specs.declared.entry.Event.TheVariants as event
use Rattle.session_model.specs.declared.entry.Why.{Why}

-- the entries and the held units together are never more than the journal's places
abbrev pub KeptWithin : Type 0
KeptWithin = (jmax : ℕ) (h : List (Entry Meaning)) → IsLegal jmax h → HasPlaces jmax h → (state h).entries + kept (state h) ≤ jmax

-- the entries and the held units take all places
abbrev pub IsFull : ℕ → Plain → Type 0
IsFull jmax m = m.entries + kept m ≡ jmax

-- once they do, they always do
abbrev pub FullStays : Type 0
FullStays = (jmax : ℕ) (h more : List (Entry Meaning)) → IsLegal jmax (h ++ more) → HasPlaces jmax (h ++ more) → IsFull jmax (state h) → IsFull jmax (state (h ++ more))

-- the seat that holds a unit can always fail it: the journal has the place
abbrev pub HolderCanFail : Type 0
HolderCanFail = (jmax : ℕ) (h : List (Entry Meaning)) → IsLegal jmax h → HasPlaces jmax h → (s : ℕ) (u : UnitId) (x : UnitRow) (cause : Why) → slice_get (state h).units u.0 ≡ Some x → x.seat ≡ Some s →
    is_full jmax (state h) s (event.Fail u cause) ≡ false

-- in a full journal any event has no place, unless it needs none
abbrev pub FullStopsOthers : Type 0
FullStopsOthers = (jmax : ℕ) (m : Plain) (s : ℕ) (e : Event Meaning) → IsFull jmax m → 1 ≤ places m s e → is_full jmax m s e ≡ true
