-- What each unit has that a session is handed, each of its units has.
use Rattle.std.specs.Prelude.{◌≡◌, ℕ, ⊤, slice_get, Some}
use Rattle.session_model.specs.Meaning.{Meaning}
use Rattle.session_model.specs.Plain.{GenRow, Plain, UnitRow}
use Rattle.session_model.specs.declared.entry.Event.{Event}
use Rattle.session_model.specs.declared.entry.Event.TheVariants as event

-- the unit that an event hands in has this
abbrev pub HandsIn : (Meaning → Type 0) → Event Meaning → Type 0
HandsIn Has (event.Define d t u) = Has u
HandsIn Has (event.Attach d t u) = Has u
HandsIn Has e = ⊤

-- all units of a session have it, and those that its generators would define
pub record AllHave (Has : Meaning → Type 0) (m : Plain) : Type 0 where
  pub units : (u : ℕ) (x : UnitRow) → slice_get m.units u ≡ Some x → Has x.meaning
  pub generators : (g : ℕ) (x : GenRow) → slice_get m.generators g ≡ Some x → Has x.meaning
