-- What a seat holds while other seats go on.
use Rattle.std.specs.Prelude.{◌≡◌, ℕ, false, List, ◌++◌, slice_get, Some}
use Rattle.session_model.specs.Meaning.{Meaning}
use Rattle.session_model.specs.Plain.{Plain, UnitRow, is_defunct}
use Rattle.session_model.specs.State.{state}
use Rattle.session_model.specs.Answer.{last_reply, is_link_of, is_emit_of, is_place_of}
use Rattle.session_model.specs.History.{IsLegal}
use Rattle.session_model.specs.declared.entry.Entry.{Entry}
use Rattle.session_laws.specs.Holding.{AllOthers, OwnSame}

-- the seat holds this unit, which isn't gone
pub record Holds (m : Plain) (s u : ℕ) (x : UnitRow) : Type 0 where
  pub there : slice_get m.units u ≡ Some x
  pub seat : x.seat ≡ Some s
  pub here : is_defunct x.phase ≡ false

-- the unit was held before, as it is but for its tracker, with the same present instances
pub record WasHeld (m n : Plain) (s u : ℕ) (y : UnitRow) : Type 0 where
  pub unit : UnitRow
  pub held : Holds m s u unit
  pub same : y ≡ record unit { tracker = y.tracker }
  pub own : OwnSame m.rows n.rows u

-- what other seats do gives a seat no unit
abbrev pub OthersGiveNone : Type 0
OthersGiveNone = (jmax : ℕ) (h more : List (Entry Meaning)) → IsLegal jmax (h ++ more) → (s u : ℕ) (y : UnitRow) → AllOthers s more →
    Holds (state (h ++ more)) s u y → WasHeld (state h) (state (h ++ more)) s u y

-- the last replies about a unit: to a link, an emission and a place that weren't turned away
pub record SameReplies (u : ℕ) (h h' : List (Entry Meaning)) : Type 0 where
  pub link : last_reply (is_link_of u) h' ≡ last_reply (is_link_of u) h
  pub emit : last_reply (is_emit_of u) h' ≡ last_reply (is_emit_of u) h
  pub place : last_reply (is_place_of u) h' ≡ last_reply (is_place_of u) h

-- about a unit that a seat holds they stay the last, whatever other seats do
abbrev pub LastRepliesStay : Type 0
LastRepliesStay = (jmax : ℕ) (h more : List (Entry Meaning)) → IsLegal jmax (h ++ more) → (s u : ℕ) (x : UnitRow) → AllOthers s more →
    Holds (state h) s u x → SameReplies u h (h ++ more)
