-- What one seat's turns add to the roll.
use Rattle.std.specs.Prelude.{◌≡◌, ℕ, zero, suc, List, [], ◌∷◌, ◌++◌}
use Rattle.turn_lock.specs.declared.view.View.{View}
use Rattle.turn_lock.specs.Lists.{StartsWith}
use Rattle.turn_soak.specs.declared.roll.Mark.{Mark}

-- the mark of a seat's turn
abbrev pub mark : ℕ → ℕ → Mark
mark seat nth = record { seat = seat; turn = nth }

-- the marks of a seat's turns below a number, in order
abbrev pub marks : ℕ → ℕ → List Mark
marks seat zero = []
marks seat (suc n) = marks seat n ++ mark seat n ∷ []

-- after a turn the history seen begins with what was seen before, and ends with the turn's mark, which is one more of the seat's own
pub record Took (nth : ℕ) (v w : View Mark) : Type 0 where
  pub before : List Mark
  pub later : StartsWith before v.seen
  pub seen : w.seen ≡ before ++ mark v.number nth ∷ []
  pub mine : w.mine ≡ v.mine ++ mark v.number nth ∷ []
