-- What is known of each query: how many of its matches it still waits for, and whether it was found to be met.
use Rattle.std.specs.Prelude.{ℕ, ◌≤◌, Bool, false, List, length, slice_get, if◌then◌else◌}
use Rattle.std.specs.Option.{option_map_or}
use Rattle.query_book.specs.declared.marks.Mark.{Mark}
use Rattle.query_book.specs.Counts.{count}

-- the marks by number, the numbers found to be met and not settled, and whether there is room for one more
pub record Marking : Type 0 where
  pub marks : List Mark
  pub met : List ℕ
  pub has_room : Bool

-- how many of its matches a query still waits for
abbrev pub left_at : List Mark → ℕ → ℕ
left_at marks k = option_map_or (λ m. m.left) (slice_get marks k) 0

-- the query was found to be met
abbrev pub found_at : List Mark → ℕ → Bool
found_at marks k = option_map_or (λ m. m.found) (slice_get marks k) false

-- 1 where the test holds
abbrev pub one_if : Bool → ℕ
one_if b = if b then 1 else 0

-- no number is listed twice, and none that wasn't found; there is room for all
pub record IsMarked (marks : List Mark) (met : List ℕ) (room : ℕ) : Type 0 where
  pub listed : (k : ℕ) → count k met ≤ one_if (found_at marks k)
  pub fits : length marks ≤ room
