-- What one caller of a session knows of its history.
use Rattle.std.specs.Prelude.{◌≡◌, ℕ, ◌==◌, List, [], ◌++◌, filter, Contains}

pub record Seat (E : Type 0) : Type 0 where
  pub number : ℕ
  -- the history as far as it was seen
  pub seen : List E
  -- the entries with its number, in order
  pub mine : List E
  -- the numbers that were joined into it, each with that number's entries
  pub ended : List (ℕ × List E)
  -- the numbers that it may still give to new seats
  pub spare : List ℕ
  -- how many of its own compare-exchanges found the turn taken
  pub found : ℕ

-- the entries of one number
abbrev pub entries_of : {E : Type 0} → (E → ℕ) → ℕ → List E → List E
entries_of seat_of n h = filter (λ e. seat_of e == n) h

-- what a seat knows is true of the history
pub record IsSeatOf {E : Type 0} (seat_of : E → ℕ) (history : List E) (s : Seat E) : Type 0 where
  pub later : List E
  pub prefix : history ≡ s.seen ++ later
  pub mine : entries_of seat_of s.number history ≡ s.mine
  pub ended : (p : ℕ × List E) → Contains s.ended p → entries_of seat_of p.0 history ≡ p.1
  pub spare : (n : ℕ) → Contains s.spare n → entries_of seat_of n history ≡ []
