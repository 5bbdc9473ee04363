-- An instance that has an address has one end, which stands at that address.
use Rattle.std.specs.Prelude.{◌≡◌, ℕ, true, List, slice_get, Some}
use Rattle.session_model.specs.History.{IsLegal}
use Rattle.session_model.specs.Meaning.{IsAlias, Meaning}
use Rattle.session_model.specs.Plain.{Plain, UnitRow, address_at, is_alias}
use Rattle.session_model.specs.State.{state}
use Rattle.session_model.specs.declared.entry.Entry.{Entry}
use Rattle.closure_laws.specs.Bindings.{IsAt}
use Rattle.memory_laws.specs.Closures.{IsEnd}

-- each alias has the form of one
abbrev pub AliasesHaveForm : List UnitRow → Type 0
AliasesHaveForm units = (u : ℕ) (x : UnitRow) → slice_get units u ≡ Some x → is_alias x ≡ true → IsAlias x.meaning

-- in every legal history: an instance that has an address has an end
abbrev pub EndsExist : Type 0
EndsExist = (jmax : ℕ) (h : List (Entry Meaning)) → IsLegal jmax h → AliasesHaveForm (state h).units → (i address : ℕ) → address_at (state h).rows i ≡ Some address → (end : ℕ) × IsEnd (state h) i end

-- in any session: one end at most
abbrev pub EndsAreOne : Type 0
EndsAreOne = (m : Plain) (i a b : ℕ) → IsEnd m i a → IsEnd m i b → a ≡ b

-- in every legal history: the end has the instance's address, or it failed since
abbrev pub EndsStandThere : Type 0
EndsStandThere = (jmax : ℕ) (h : List (Entry Meaning)) → IsLegal jmax h → AliasesHaveForm (state h).units → (i address end : ℕ) → address_at (state h).rows i ≡ Some address → IsEnd (state h) i end → IsAt (state h).rows end address
