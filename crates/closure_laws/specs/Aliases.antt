-- Where aliases stand.
use Rattle.std.specs.Prelude.{◌≡◌, ℕ, true, List, [], ◌∷◌, slice_get, Some}
use Rattle.orc_ids.specs.declared.ids.InstId.{InstId}
use Rattle.session_model.specs.Meaning.{Meaning, IsAlias}
use Rattle.session_model.specs.Plain.{UnitRow, is_alias}
use Rattle.session_model.specs.State.{state}
use Rattle.session_model.specs.History.{IsLegal}
use Rattle.session_model.specs.declared.entry.Entry.{Entry}
use Rattle.session_model.specs.declared.rows.InstRow.{InstRow}
use Rattle.closure_laws.specs.Bindings.{IsAt}

-- the unit is bound to one instance, at this address; and that instance has it, or failed since
pub record StandsAt (rows : List InstRow) (x : UnitRow) (address : ℕ) : Type 0 where
  pub target : InstId
  pub bound : x.bound ≡ Some (Some (target, address) ∷ [])
  pub there : IsAt rows target.0 address

-- an alias that has a base, and has the form of one, stands there
abbrev pub AliasesStand : Type 0
AliasesStand = (jmax : ℕ) (h : List (Entry Meaning)) → IsLegal jmax h → (u address : ℕ) (x : UnitRow) → slice_get (state h).units u ≡ Some x → is_alias x ≡ true → IsAlias x.meaning → x.base ≡ Some address → StandsAt (state h).rows x address
