-- What a unit is bound to, and what it has once it is done.
use Rattle.std.specs.Prelude.{◌≡◌, ℕ, Bool, true, ◌||◌, ◌⊎◌, List, ◌++◌, length, slice_get, Some, is_some}
use Rattle.session_model.specs.Meaning.{Meaning, Bindings}
use Rattle.session_model.specs.Plain.{Plain, UnitRow, is_alias, unit_shape}
use Rattle.session_model.specs.State.{state}
use Rattle.session_model.specs.History.{IsLegal}
use Rattle.session_model.specs.declared.entry.Entry.{Entry}
use Rattle.session_model.specs.declared.rows.Query.{Query}
use Rattle.session_model.specs.declared.rows.UnitPhase.TheVariants as stage

-- how many names a unit looks up
abbrev pub external_count : UnitRow → ℕ
external_count x = length (x.meaning.externals x.live)

-- the link query of a unit, where it has one, is there, and matched one instance or none for each external
abbrev pub LinksEach : List Query → UnitRow → Type 0
LinksEach queries x = (k : ℕ) → x.query ≡ Some k → (q : Query) × (slice_get queries k ≡ Some q) × (length q.matched ≡ external_count x)

-- the bindings of a unit, where it has them, are one for each external
abbrev pub BindsEach : UnitRow → Type 0
BindsEach x = (b : Bindings) → x.bound ≡ Some b → length b ≡ external_count x

-- a unit with a shape is placed, and an alias is given its target's address
abbrev pub wants_base : UnitRow → Bool
wants_base x = is_some (unit_shape x) || is_alias x

-- what a unit has once it is done
pub record HasAll (x : UnitRow) : Type 0 where
  pub bound : (b : Bindings) × (x.bound ≡ Some b) × (length b ≡ external_count x)
  pub base : wants_base x ≡ true → (n : ℕ) × (x.base ≡ Some n)

-- a unit links and binds each of its externals; and it has all once it is done
pub record IsBound (queries : List Query) (x : UnitRow) : Type 0 where
  pub links : LinksEach queries x
  pub binds : BindsEach x
  pub done : x.phase ≡ stage.Done → HasAll x

-- so it is with each unit of a session
abbrev pub AreBound : Plain → Type 0
AreBound m = (u : ℕ) (x : UnitRow) → slice_get m.units u ≡ Some x → IsBound m.queries x

-- in every legal history
abbrev pub DoneIsBound : Type 0
DoneIsBound = (jmax : ℕ) (h : List (Entry Meaning)) → IsLegal jmax h → AreBound (state h)

-- y is done, as x was, with all that x had
pub record StaysDone (x y : UnitRow) : Type 0 where
  pub meaning : y.meaning ≡ x.meaning
  pub live : y.live ≡ x.live
  pub base : y.base ≡ x.base
  pub bound : y.bound ≡ x.bound
  pub done : y.phase ≡ stage.Done

-- a unit that is done stays so, with all that it has, until it is removed
abbrev pub DoneStays : Type 0
DoneStays = (jmax : ℕ) (h more : List (Entry Meaning)) → IsLegal jmax (h ++ more) → (u : ℕ) (x : UnitRow) → slice_get (state h).units u ≡ Some x → x.phase ≡ stage.Done →
    (y : UnitRow) × (slice_get (state (h ++ more)).units u ≡ Some y) × (StaysDone x y ⊎ (y.phase ≡ stage.Defunct))
