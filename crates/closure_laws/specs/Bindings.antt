-- Addresses stay, and so do the bindings of a unit.
use Rattle.std.specs.Prelude.{◌≡◌, ℕ, true, ◌⊎◌, List, ◌++◌, slice_get, map, Option, Some, option_map}
use Rattle.orc_ids.specs.declared.ids.InstId.{InstId}
use Rattle.session_model.specs.Meaning.{Meaning, Bindings}
use Rattle.session_model.specs.Plain.{UnitRow, address_at, failed_at}
use Rattle.session_model.specs.State.{state, IsEnd}
use Rattle.session_model.specs.History.{IsLegal}
use Rattle.session_model.specs.declared.entry.Entry.{Entry}
use Rattle.session_model.specs.declared.rows.Ending.TheVariants.{Found}
use Rattle.session_model.specs.declared.rows.InstRow.{InstRow}
use Rattle.session_model.specs.declared.rows.Query.{Query}

-- the instance is there, and has this address, or failed
abbrev pub IsAt : List InstRow → ℕ → ℕ → Type 0
IsAt rows i address = (address_at rows i ≡ Some address) ⊎ (failed_at rows i ≡ true)

-- an instance that has an address keeps it, or it fails
abbrev pub AddressesStay : Type 0
AddressesStay = (jmax : ℕ) (h more : List (Entry Meaning)) → IsLegal jmax (h ++ more) → (i address : ℕ) → address_at (state h).rows i ≡ Some address → IsAt (state (h ++ more)).rows i address

-- one that failed stays so
abbrev pub FailuresStay : Type 0
FailuresStay = (jmax : ℕ) (h more : List (Entry Meaning)) → IsLegal jmax (h ++ more) → (i : ℕ) → failed_at (state h).rows i ≡ true → failed_at (state (h ++ more)).rows i ≡ true

-- the unit's bindings are the end of its link query
pub record IsItsEnd (h : List (Entry Meaning)) (x : UnitRow) (b : Bindings) : Type 0 where
  pub number : ℕ
  pub its : x.query ≡ Some number
  pub at : ℕ
  pub ended : IsEnd h number at (Found b)

-- a unit that has bindings has them from its link query
abbrev pub BindingsAreEnds : Type 0
BindingsAreEnds = (jmax : ℕ) (h : List (Entry Meaning)) → IsLegal jmax h → (u : ℕ) (x : UnitRow) (b : Bindings) → slice_get (state h).units u ≡ Some x → x.bound ≡ Some b → IsItsEnd h x b

-- the instances that are bound, or none, in symbol order
abbrev pub instances : Bindings → List (Option InstId)
instances b = map (λ o. option_map (λ p. p.0) o) b

-- they are those that the unit's link query matched
abbrev pub BindingsAreMatches : Type 0
BindingsAreMatches = (jmax : ℕ) (h : List (Entry Meaning)) → IsLegal jmax h → (u k : ℕ) (x : UnitRow) (b : Bindings) (q : Query) → slice_get (state h).units u ≡ Some x → x.bound ≡ Some b → x.query ≡ Some k → slice_get (state h).queries k ≡ Some q → instances b ≡ q.matched

-- each instance that is bound has the address that it is bound at, or failed since
abbrev pub BindingsHold : List InstRow → Bindings → Type 0
BindingsHold rows b = (k : ℕ) (i : InstId) (address : ℕ) → slice_get b k ≡ Some (Some (i, address)) → IsAt rows i.0 address

-- so it is with the bindings of each unit
abbrev pub BoundAddressesAreKept : Type 0
BoundAddressesAreKept = (jmax : ℕ) (h : List (Entry Meaning)) → IsLegal jmax h → (u : ℕ) (x : UnitRow) (b : Bindings) → slice_get (state h).units u ≡ Some x → x.bound ≡ Some b → BindingsHold (state h).rows b
