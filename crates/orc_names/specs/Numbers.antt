-- The numbers of texts.
use Rattle.std.specs.Prelude.{◌≡◌, ℕ, ◌<◌, ◌≤◌, ◌^◌, List, Some, length, slice_get}
use Rattle.std.specs.List.{IsDistinct}
use Rattle.std.specs.Str.{bytes_eq}

-- the text stands at this number, and at no other
pub record IsNumberOf (names : List (List ℕ)) (text : List ℕ) (number : ℕ) : Type 0 where
  pub given : number < length names
  pub there : slice_get names number ≡ Some text
  pub only : (other : ℕ) → slice_get names other ≡ Some text → other ≡ number

-- no text stands twice, and each place fits a number
pub record IsTable (names : List (List ℕ)) : Type 0 where
  pub distinct : IsDistinct bytes_eq names
  pub few : length names ≤ 2 ^ 32

-- each number's text stays
abbrev pub KeepsNumbers : List (List ℕ) → List (List ℕ) → Type 0
KeepsNumbers old new = (number : ℕ) (text : List ℕ) → slice_get old number ≡ Some text → slice_get new number ≡ Some text
