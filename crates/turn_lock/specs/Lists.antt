-- Lists of entries.
use Rattle.std.specs.Prelude.{◌≡◌, ℕ, zero, suc, ◌+◌, nat_lt, List, [], ◌∷◌, ◌++◌, length, filter, ◌==◌, if◌then◌else◌}

module _ {E : Type 0} where
  -- the list log begins with the list seen
  abbrev pub StartsWith : List E → List E → Type 0
  StartsWith log seen = (more : List E) × (log ≡ seen ++ more)

  -- the entries of the seat with this number, in order
  abbrev pub entries_of : (E → ℕ) → ℕ → List E → List E
  entries_of seat_of number = filter (λ e. seat_of e == number)

  -- the longer of two lists, and the first where they are equally long
  abbrev pub longer : List E → List E → List E
  longer xs ys = if nat_lt (length xs) (length ys) then ys else xs

  -- the other one
  abbrev pub shorter : List E → List E → List E
  shorter xs ys = if nat_lt (length xs) (length ys) then xs else ys

  -- count numbers from first on, none of which has an entry
  abbrev pub unused : ℕ → ℕ → List (ℕ × List E)
  unused first zero = []
  unused first (suc count) = (first, []) ∷ unused (first + 1) count
