-- What a call did to its seat's view, from taking the turn to giving it.
use Rattle.std.specs.Prelude.{◌≡◌, ℕ, ◌≤◌, List, [], ◌++◌}
use Rattle.turn_lock.specs.declared.view.View.{View}
use Rattle.turn_lock.specs.Rule.{Accounts}
use Rattle.turn_lock.specs.Told.{Shows}
use Rattle.turn_lock.specs.Views.{grows, gives_turn}

module _ {E : Type 0} (seat_of : E → ℕ) (lawful : List E → Type 0) (posted : List E → ℕ → ℕ → Type 0) where
  -- A seat that knew v took the turn where the history was old, and gave it where it was new: it knows w, has seen all
  -- of the new history, and what that has more is its own.
  pub record Passed (v w : View E) (old new : List E) : Type 0 where
    pub more : List E
    pub grown : new ≡ old ++ more
    pub found : ℕ
    pub tries : v.found ≤ found
    pub view : w ≡ record v { seen = new; told = []; mine = v.mine ++ more; found = found }
    pub shows : Shows seat_of lawful posted old v
    pub legal : lawful new
    pub accounts : Accounts seat_of new w

  -- and between the two this was done
  pub record Turned (v w : View E) (does : List E → List E → Type 0) : Type 0 where
    pub old : List E
    pub new : List E
    pub passed : Passed v w old new
    pub did : does old new

module _ {E : Type 0} (seat_of : E → ℕ) (lawful : List E → Type 0) where
  -- The part of it behind the taking: a seat with the turn knew u, which is all of the history, made a call, and gave
  -- the turn: it knows w.
  pub record Made (u w : View E) (does : List E → List E → Type 0) : Type 0 where
    pub more : List E
    pub view : w ≡ gives_turn (grows more u)
    pub legal : lawful (u.seen ++ more)
    pub accounts : Accounts seat_of (u.seen ++ more) w
    pub did : does u.seen (u.seen ++ more)
