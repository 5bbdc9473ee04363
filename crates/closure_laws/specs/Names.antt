-- A name has one present instance in each dylib at most.
use Rattle.std.specs.Prelude.{◌≡◌, ℕ, Bool, true, ◌&&◌, ◌==◌, List, slice_get, Some}
use Rattle.orc_ids.specs.declared.flags.SymFlags.{SymFlags}
use Rattle.orc_ids.specs.declared.ids.NameId.{NameId}
use Rattle.session_model.specs.Meaning.{Meaning}
use Rattle.session_model.specs.Plain.{UnitRow}
use Rattle.session_model.specs.State.{state}
use Rattle.session_model.specs.History.{IsLegal}
use Rattle.session_model.specs.declared.entry.Entry.{Entry}
use Rattle.session_model.specs.declared.rows.InstRow.{InstRow}

-- the unit offers no name twice, as no lawful unit does
abbrev pub OffersDiffer : Meaning → Type 0
OffersDiffer u = (j k : ℕ) (a b : NameId × SymFlags) → slice_get u.offers j ≡ Some a → slice_get u.offers k ≡ Some b → a.0 ≡ b.0 → j ≡ k

abbrev pub AllOffersDiffer : List UnitRow → Type 0
AllOffersDiffer units = (u : ℕ) (x : UnitRow) → slice_get units u ≡ Some x → OffersDiffer x.meaning

-- the instance is the name's in the dylib
abbrev pub is_present_as : ℕ → ℕ → InstRow → Bool
is_present_as d name r = r.present && r.dylib.0 == d && r.name.0 == name

-- a name has one present instance in the dylib at most
abbrev pub HasOneRowEach : List InstRow → ℕ → Type 0
HasOneRowEach rows d = (name i j : ℕ) (r s : InstRow) → slice_get rows i ≡ Some r → slice_get rows j ≡ Some s → is_present_as d name r ≡ true → is_present_as d name s ≡ true → i ≡ j

-- so it is in each dylib, where no unit offers a name twice
abbrev pub NamesAreOnce : Type 0
NamesAreOnce = (jmax : ℕ) (h : List (Entry Meaning)) → IsLegal jmax h → AllOffersDiffer (state h).units → (d : ℕ) → HasOneRowEach (state h).rows d
