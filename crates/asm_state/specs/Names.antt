-- Lists of names in which a name stands once, at the place that is its number.
use Rattle.std.specs.Prelude.{ℕ, ◌<◌, ◌-◌, ◌^◌, Bool, List, length, position, unwrap_or}
use Rattle.std.specs.List.{IsDistinct, list_any}
use Rattle.std.specs.Str.{bytes_eq}

-- the name is among these
abbrev pub has : List ℕ → List (List ℕ) → Bool
has name names = list_any (bytes_eq name) names

-- the place of the name among these, from 0
abbrev pub number_of : List ℕ → List (List ℕ) → ℕ
number_of name names = unwrap_or (position (bytes_eq name) names) 0

-- no name stands twice, and each place fits a number
pub record IsTable (names : List (List ℕ)) : Type 0 where
  pub distinct : IsDistinct bytes_eq names
  pub few : length names < 2 ^ 32 - 1
