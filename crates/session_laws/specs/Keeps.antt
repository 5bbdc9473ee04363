-- What a session keeps of its units' work.
use Rattle.std.specs.Prelude.{◌≡◌, ℕ, true, List, slice_get, Some, unwrap_or}
use Rattle.session_model.specs.Meaning.{Meaning}
use Rattle.session_model.specs.Plain.{UnitRow, phase_address}
use Rattle.session_model.specs.State.{state}
use Rattle.session_model.specs.History.{IsLegal}
use Rattle.session_model.specs.declared.entry.Entry.{Entry}
use Rattle.session_model.specs.declared.rows.InstRow.{InstRow}

-- an instance's address, where it has one, is its unit's for its name, at the unit's base
abbrev pub AddressFits : InstRow → UnitRow → Type 0
AddressFits r x = (a : ℕ) → phase_address r.phase ≡ Some a → a ≡ x.meaning.address r.offer (unwrap_or x.base 0)

-- each present instance has its unit's address
abbrev pub AddressesFit : List InstRow → List UnitRow → Type 0
AddressesFit rows units = (i : ℕ) (r : InstRow) (x : UnitRow) → slice_get rows i ≡ Some r → r.present ≡ true → slice_get units r.unit.0 ≡ Some x → AddressFits r x

abbrev pub AddressesAreKept : Type 0
AddressesAreKept = (jmax : ℕ) (h : List (Entry Meaning)) → IsLegal jmax h → AddressesFit (state h).rows (state h).units
